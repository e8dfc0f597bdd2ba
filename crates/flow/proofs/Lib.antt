-- Laws of the scans.
pub mod Changes
pub mod Truths
pub mod Framing
pub mod Strange
pub mod Unmatched
pub mod Walking
mod Spanning
pub mod Spreading
pub mod Hanging
pub mod Handing
pub mod Ranging
pub mod Nexts
pub mod Tables
pub mod Named
pub mod Matching
pub mod Touched
pub mod Classes
pub mod Spelled
