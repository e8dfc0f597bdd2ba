-- What the code's values mean (Counting; Lines), what became of a raw line (Fates; Following), and what the sheet's ticks say (Ticks).
pub mod Counting
pub mod Fates
pub mod Following
pub mod Lines
pub mod Ticks
