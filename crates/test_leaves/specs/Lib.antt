-- The parts of a line (Fields), its answer by the reference's definitions (Answers), and which question a word asks (Questions).
pub mod Fields
pub mod Answers
pub mod Questions
