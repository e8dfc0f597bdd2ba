-- The examples of document 01, by computation; then the proof of demand 3, from the ground up (Guarantee states it), and
-- what the requests promise of the definitions. Code crates cite Cases
-- (the control words), Shapes (what a success knows), Fits (how large a listing grows) and Rounds (the rounds and cuts without fuel).
pub mod Opened
pub mod Examples
pub mod TapeExamples
pub mod StraightExamples
pub mod Cases
pub mod Numerals
pub mod Printed
pub mod Shapes
pub mod Weights
pub mod Calls
pub mod Lines
pub mod Changes
pub mod Fits
pub mod Attempts
pub mod Parts
pub mod Cuts
pub mod Rounds
pub mod Settling
pub mod LittleEndian
pub mod Commands
pub mod Steps
pub mod Reading
pub mod Sums
pub mod Writing
pub mod Limits
pub mod Tapes
pub mod Written
pub mod Refusals
pub mod Guarantee
pub mod WorkSpace
pub mod Unmarked
pub mod Spans
pub mod Marks
