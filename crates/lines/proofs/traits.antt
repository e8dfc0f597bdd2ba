-- Laws of the traits: rows of truths as numbers (Rows), what a token's traits are (Tests), and those of common texts (Common).
pub mod Rows
pub mod Tests
pub mod Common
