-- M-106: that cleaning keeps what a straight piece returns, from the ground up.
pub mod Reader
pub mod Shown
pub mod Alike
pub mod Machine
pub mod Enough
pub mod Values
pub mod Evaluators
pub mod Folding
pub mod Expression
pub mod Substituting
pub mod Flow
pub mod Life
pub mod Rewriting
pub mod Joining
pub mod Attempt
pub mod Profile
pub mod Cleaning
