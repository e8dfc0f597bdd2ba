-- What the call answers and leaves (Replies), and what its parts find and leave (Telling).
pub mod Replies
pub mod Telling
