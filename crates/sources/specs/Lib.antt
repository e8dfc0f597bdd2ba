-- Which raw lines came into a finished line, asked of the cleaning itself (Only), and what the code's values mean (Calls).
pub mod Only
pub mod Calls
