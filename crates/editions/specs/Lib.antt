-- Request M-103, between the two C editions: on one Number, on listings and tapes, the 2018 edition's numerals, and what is promised.
pub mod Numbers
pub mod Conversion
pub mod Grammar
pub mod Promises
pub mod Lowering
pub mod Asking
