-- Laws of an attempt, a round and the cuts. Code crates cite Deciding (`try_at` is `decide`, then `act`) and Planned (what a plan knows); for their loops
-- Reaching, Taking, Looking, Fitting, Building, Labels, Addressed and Rounds; Moving (labels after a step), Bare (no reader looks at an address), Bounds
-- and Room (how much room there is). The others serve these.
pub mod Indexed
pub mod Uses
pub mod Straight
pub mod Reaching
pub mod Taking
pub mod Single
pub mod Acting
pub mod Deciding
pub mod Planned
pub mod Looking
pub mod Fitting
pub mod Building
pub mod BareLife
pub mod Bare
pub mod Labels
pub mod Moving
pub mod Addressed
pub mod Bounds
pub mod Room
pub mod Rounds
pub mod Carried
