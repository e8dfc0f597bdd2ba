-- What the code's values mean: the tables of a loaded listing, the records of lines, and what is written.
pub mod Tables
pub mod Records
pub mod Writing
pub mod Memo
