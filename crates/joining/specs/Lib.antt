-- Definitions that the code crates cite: an attempt as a plan and its change, lines without addresses, labels by their places, rounds and
-- cuts as loops, marks in tables, the limits of a run.
pub mod Plan
pub mod Bare
pub mod Places
pub mod Rounds
pub mod Carried
pub mod Limits
