-- From the ground up: addresses moved in listings and marks (Moving), the first command with a bad address (Firsts), one conversion
-- (Converting), what the two calls promise (Guarantee); for the code, question 18 (Searching), the writing (Putting) and the calls (Answering); examples by computation (Examples).
pub mod Moving
pub mod Firsts
pub mod Converting
pub mod Guarantee
pub mod Searching
pub mod Putting
pub mod Answering
pub mod Examples
