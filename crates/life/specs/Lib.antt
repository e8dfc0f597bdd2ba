-- What the code's answers mean: touches, liveness of a value at a line, jumps, the labels of a round.
pub mod Touches
pub mod Liveness
pub mod Jumps
pub mod Labels
