-- Laws of the codes: what a word's code says (Coding), and words, lines and listings whose words were coded (Recoding), and the word of the same
-- token elsewhere (Elsewhere).
pub mod Coding
pub mod Recoding
pub mod Elsewhere
