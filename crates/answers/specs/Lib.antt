-- What an answer of a call beside the cleaning means, and what it promises of what was lent.
pub mod Refusals
pub mod Answers
