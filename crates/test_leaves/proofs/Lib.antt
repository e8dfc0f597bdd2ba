-- Laws that the proofs of leaves cite: parts of a text between separators (Separators), the answers (Answering).
pub mod Separators
pub mod Answering
