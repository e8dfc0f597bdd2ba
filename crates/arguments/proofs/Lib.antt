-- Laws that the functions' proofs cite: a word's row (Rows), the turns of loops (Turns), operands REG=VALUE (Naming), the entries put (Gathering); and
-- that crate start reads the entries as the words say (ReadBack).
pub mod Rows
pub mod Turns
pub mod Naming
pub mod Gathering
pub mod ReadBack
