-- What the command writes of a reply: lines (Reports, Explained), where in the listing a refusal is (Places), which words its reason has
-- (Why, Profile), and that these say why the tape is refused (Because).
pub mod Reports
pub mod Places
pub mod Why
pub mod Explained
pub mod Profile
pub mod Because
