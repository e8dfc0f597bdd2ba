-- Laws of the bytes that operators begin with (Operators), of trimming by index (Trims) and of texts put one after the other (Cursors).
pub mod Operators
pub mod Trims
pub mod Cursors
