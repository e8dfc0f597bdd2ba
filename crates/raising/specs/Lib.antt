-- The tables in which cautions are kept, and what a join and a cut leave of them.
pub mod Tables
pub mod Steps
pub mod Spread
pub mod Others
pub mod Noting
pub mod Halfway
pub mod Renewing
