-- What the scans over tokens, the forms of lines and the walk along them mean.
pub mod Marking
pub mod Compared
pub mod Frames
pub mod Opaque
pub mod Spelling
pub mod Forms
pub mod LineForms
pub mod Values
pub mod Blocks
pub mod Ways
pub mod Reaching
pub mod Spans
pub mod Handed
pub mod Between
