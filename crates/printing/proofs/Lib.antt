-- Laws on decimal digits.
pub mod Decimals
