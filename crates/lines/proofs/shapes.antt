-- Laws of the shapes. Other crates cite Places (what stands at a place that was found), Right (the words of a right side) and Sides (the answer
-- of `assignment`); Tests, Counted, Writes and Cuts serve the proofs here.
pub mod Tests
pub mod Places
pub mod Counted
pub mod Writes
pub mod Right
pub mod Cuts
pub mod Sides
