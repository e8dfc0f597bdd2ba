-- What a formula is in pairs and what the call answers by it (Formula, Least, Solved, Answer, Examples); laws for the code: the list of
-- names (Entries), the names (Registers), the table of pairs (Pricing), the lines one after the other (Running) and the questions (Asking).
pub mod Formula
pub mod Least
pub mod Solved
pub mod Answer
pub mod Examples
pub mod Entries
pub mod Naming
pub mod Registers
pub mod Pricing
pub mod Running
pub mod Asking
