-- A list of calls (Frames), what each wants (Answers), and how many differ (Tallies).
pub mod Frames
pub mod Answers
pub mod Tallies
