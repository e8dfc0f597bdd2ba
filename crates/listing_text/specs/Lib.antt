-- The text forms of a tape: bytes as far as they fit, the two forms, and what the exact form reads back as.
pub mod Room
pub mod Forms
pub mod Showing
pub mod Exact
pub mod Parsed
pub mod RoundTrip
