-- Laws of the families: of one token (Families), and of a token that is written (Writing).
pub mod Families
pub mod Writing
