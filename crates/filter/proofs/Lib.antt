-- Laws that the proofs of filter cite.
pub mod Responding
pub mod Cut
