-- Laws of the writing: what lines are written as and the loops that write them (Putting), the records of line words (Gathering).
pub mod Putting
pub mod Gathering
