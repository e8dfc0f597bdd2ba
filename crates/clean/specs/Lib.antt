-- The questions before the tape (Asking), what a call's tables hold (Tabled), what the entry promises of every call (Replies), and what a
-- cleaning finds and leaves (Cleaning).
pub mod Asking
pub mod Tabled
pub mod Replies
pub mod Cleaning
