-- What the code's places, terms and values mean in the evaluators of the reference, also over a line as the code lends it; when a listing's
-- profile is asked, and what in a line breaks it.
pub mod Places
pub mod Terms
pub mod Values
pub mod Tabled
pub mod Profile
pub mod Line
pub mod Breaches
