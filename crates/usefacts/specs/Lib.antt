-- What the scans over tokens mean, and the two parts of a rewritten line's cautions.
pub mod Reads
pub mod Numbers
pub mod Widths
pub mod Rest
pub mod Uses
pub mod Split
