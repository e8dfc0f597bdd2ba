-- Laws that the proofs of clean cite: what a loaded tape gives to a run and what the run leaves to write (Running), and replies (Replying).
pub mod Running
pub mod Replying
