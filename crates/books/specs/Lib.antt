-- What the books say (Registers, Conventions, Constants, Constants2024), where the reference agrees (Agreement), differs (Differences)
-- and reads document 01 more closely (Readings), which texts are numbers (Spellings) and how the two number editions compare (Editions).
-- Tables and Notation are for writing these down.
pub mod Tables
pub mod Registers
pub mod Conventions
pub mod Constants
pub mod Constants2024
pub mod Agreement
pub mod Notation
pub mod Differences
pub mod Readings
pub mod Spellings
pub mod Editions
