-- What each command adds to a tally (Adding, Sizing) and to what is asked of addresses (Addressing, Holding) and of calls (Callees), what became of a line (Fating), and that the sheet's
-- ticks hold of every cleaning (Ticking).
pub mod Adding
pub mod Addressing
pub mod Holding
pub mod Sizing
pub mod Callees
pub mod Fating
pub mod Following
pub mod Ticking
