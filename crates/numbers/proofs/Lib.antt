-- Laws: two's complement over any width (Bits) and at 64 bits (Signed), digits (Digits), a number's text put piece by piece (Writing),
-- rows of digits (Reading), what std reads (Parses), prefixes and minus (Parsing), constants of the 2024 edition (Constants).
pub mod Bits
pub mod Signed
pub mod Digits
pub mod Writing
pub mod Reading
pub mod Parses
pub mod Parsing
pub mod Constants
