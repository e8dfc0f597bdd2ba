-- Laws of what is put, piece after piece (Putting), of where a refusal is and its words (Placing), of a loaded listing (Loading), of numbers without a reason (Reasons), of names
-- as they are shown (Showing), and why the reading of a tape stops (Stopping).
pub mod Putting
pub mod Placing
pub mod Loading
pub mod Reasons
pub mod Stopping
pub mod Showing
