-- Laws: pages of bytes, digits and letters, parts of a text, fields, a whole tape as text; the theorem ReadBack, and examples.
pub mod Pages
pub mod Spelling
pub mod Parts
pub mod Fielding
pub mod Telling
pub mod Numerals
pub mod Written
pub mod ReadBack
pub mod Examples
