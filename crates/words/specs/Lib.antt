-- The words of a list of bytes (Splitting), and the numbers that digits stand for (Numerals).
pub mod Splitting
pub mod Numerals
