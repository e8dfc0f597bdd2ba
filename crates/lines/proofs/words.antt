-- Laws of the words: what holds of each word of a list (Each), token words (Tokens), line words and listings (Lines), and chains of
-- iterators over words (Chains).
pub mod Each
pub mod Tokens
pub mod Lines
pub mod Chains
