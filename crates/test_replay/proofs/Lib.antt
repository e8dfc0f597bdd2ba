-- Laws that the proofs of replay cite: when a frame is whole (Framing), what the lent parts are to hold (Wanting), one call (Calling), and the tally of
-- a list of frames (Tallying).
pub mod Framing
pub mod Wanting
pub mod Calling
pub mod Tallying
