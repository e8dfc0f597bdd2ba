-- What is told of cautions: the words for each kind, for a set and for a listing (Told); the sets of a call (Sets).
pub mod Told
pub mod Sets
