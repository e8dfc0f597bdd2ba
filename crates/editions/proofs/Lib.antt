-- Examples by computation; what is promised of one Number (Quotes, Hexadecimals, Lowering), of listings and tapes (Listings, Places,
-- Leftmost), all of it put together in Promised; then what the functions leave and answer (Putting, Asking, Copying, Replying).
pub mod Examples
pub mod Quotes
pub mod Hexadecimals
pub mod Lowering
pub mod Listings
pub mod Places
pub mod Leftmost
pub mod Promised
pub mod Putting
pub mod Asking
pub mod Copying
pub mod Replying
