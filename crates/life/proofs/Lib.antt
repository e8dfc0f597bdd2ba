-- Laws on the definitions, for the loops and the tests of the code.
pub mod Touching
pub mod Scanning
pub mod Jumping
pub mod Backwards
pub mod Places
