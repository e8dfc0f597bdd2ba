-- What the code's values mean: codes of names, traits, token words, facts of lines, line words and listings, answers on shapes, families,
-- texts and listings as they are lent, marks.
pub mod Codes
pub mod Traits
pub mod Edges
pub mod Words
pub mod Facts
pub mod Lines
pub mod Shapes
pub mod Fams
pub mod Texts
pub mod Marks
