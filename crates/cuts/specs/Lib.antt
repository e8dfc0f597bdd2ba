-- What the cuts find and what they leave; what they leave of the tables of cautions; the same of the struct in which the texts are lent.
pub mod Cuts
pub mod Cautions
pub mod Texts
