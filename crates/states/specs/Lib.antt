-- The store and what it means (Store), the three calls (Calls), sequences of calls (Histories), what is proved of them (Promises), what the
-- code's answers mean (Entries, Answers).
pub mod Store
pub mod Calls
pub mod Histories
pub mod Promises
pub mod Entries
pub mod Answers
