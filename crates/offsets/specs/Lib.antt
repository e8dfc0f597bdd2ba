-- The two conversions (Offsets), and what the code's values mean (Calls).
pub mod Offsets
pub mod Calls
