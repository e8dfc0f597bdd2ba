-- What the facts of a line say, and lines that have facts.
pub mod Transparent
pub mod Gathering
