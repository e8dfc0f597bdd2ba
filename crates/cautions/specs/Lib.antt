-- Cautions: why a finished line may mean something else than the raw lines it came from. Kinds names the ten reasons; Texts, Forms and
-- Values say what a line is to a reader of C (its changes and brackets, its next lines, what it reads and how wide that is); Uses and Joins
-- raise them, use by use and step by step; Cautions hands them on to the finished lines, and says what holds of them. Notation, Rows and
-- Examples: what they say of the rows of docs/DIFFERENCES.md, and of harmless listings.
pub mod Kinds
pub mod Texts
pub mod Forms
pub mod Values
pub mod Uses
pub mod Joins
pub mod Cautions
pub mod Notation
pub mod Rows
pub mod Examples
