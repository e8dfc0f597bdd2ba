-- Laws of the scans, of sizes, and of the two parts.
pub mod Reading
pub mod Beside
pub mod Calling
pub mod Copying
pub mod Sizes
pub mod Resting
pub mod Using
pub mod Keeping
pub mod Guarding
pub mod Moving
pub mod Narrow
pub mod Placing
pub mod Raising
pub mod Widening
pub mod Splitting
