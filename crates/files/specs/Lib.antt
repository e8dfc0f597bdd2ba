-- Paths in a buffer, and the front of one.
pub mod Paths
