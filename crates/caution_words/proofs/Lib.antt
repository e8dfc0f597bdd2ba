-- Laws of what is told of cautions: how long it is, and kind after kind (Telling); the sets of a call read back (Reading).
pub mod Telling
pub mod Reading
