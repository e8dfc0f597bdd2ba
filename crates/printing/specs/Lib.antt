-- The decimal digits of a number.
pub mod Decimals
