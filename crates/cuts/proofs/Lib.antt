-- Laws of the cuts, which the functions' proofs cite (Cutting); those of gathered labels serve a round too. The cautions of the cuts (Cautioning).
pub mod Cutting
pub mod Cautioning
