-- Laws of the families. Code crates cite Same (families that are equal), Bytes (names have a byte), Volatiles (the families that a call
-- overwrites), Texts and Searches (equal texts, and what a search of a list says of its elements).
pub mod Searches
pub mod Texts
pub mod Tables
pub mod Spelling
pub mod Digits
pub mod Same
pub mod Bytes
pub mod Volatiles
