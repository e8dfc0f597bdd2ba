-- Laws of tables, names and constants (Entries to Alike), then the records of the specs, proved.
pub mod Entries
pub mod Names
pub mod Reading
pub mod Grammar
pub mod Rows
pub mod Grammar2024
pub mod Alike
pub mod Agreement
pub mod Differences
pub mod Readings
pub mod Spellings
pub mod Editions
