-- From the ground up: the run of a listing without its addresses (Bared), THE LAW (Told), the copy's tape (Copied), what bytes can hold of a finished
-- listing (Held), and the output without its 03s (Unmarked); for the code, the writing of the copy (Putting), the walk over a tape (Walked), what a
-- cleaned tape holds (Cleaned), and the calls (Answering, Came).
pub mod Bared
pub mod Told
pub mod Copied
pub mod Held
pub mod Unmarked
pub mod Putting
pub mod Walked
pub mod Cleaned
pub mod Answering
pub mod Came
