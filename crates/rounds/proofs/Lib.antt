-- Laws that the functions' proofs cite: of the marks of lines (Carrying), of the cautions of attempts (Cautioning), of a round's attempts (Turning),
-- of a round's beginning (Beginning), of the run (Running), of the facts that are noted before it (Facts), and of the slices that are lent (Lending).
pub mod Carrying
pub mod Cautioning
pub mod Turning
pub mod Beginning
pub mod Running
pub mod Facts
pub mod Lending
