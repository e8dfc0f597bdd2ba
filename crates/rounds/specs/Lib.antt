-- What the contracts of rounds cite: marks carried on, the tables of cautions, a round, the whole run.
pub mod Carries
pub mod Cautions
pub mod Rounds
pub mod Runs
