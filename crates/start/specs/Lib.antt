-- Request M-107: which start value makes a formula return a wanted value.
pub mod Start
pub mod Pairs
pub mod Solved
pub mod Smallest
pub mod Items
pub mod Unknown
pub mod Reckoning
pub mod Formulas
