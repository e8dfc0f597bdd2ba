-- Laws that the functions' proofs cite: the first word (FirstWord), the pieces of a row (Pieces), numbers read digit by digit (Digits).
pub mod FirstWord
pub mod Pieces
pub mod Digits
