-- What the command's words ask for: the tables of words (Tables), a request (Request), operands (Values, Entries), the next word (Words),
-- the whole of it (Requests), files that would be written to one (Names), and what the entries of `start` say (Given).
pub mod Tables
pub mod Request
pub mod Values
pub mod Entries
pub mod Words
pub mod Requests
pub mod Names
pub mod Given
