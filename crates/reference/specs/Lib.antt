-- What everything means. From the ground up: words of definitions (Contract, Control, Lists, Options), texts and listings (Text, Listing,
-- Spans), the pieces of the Rust in document 01's order (Names, Rules, Numbers, Shapes, Life, Join, Run) with what the requests add to them
-- (Parts, Evaluators, Straight, Marks), the tape, its questions and the reply (Tape, Questions, Reply), and the guarantee (Claim, Steps,
-- Demand).
pub mod Contract
pub mod Control
pub mod Lists
pub mod Options
pub mod Text
pub mod Listing
pub mod Spans
pub mod Names
pub mod Rules
pub mod Numbers
pub mod Shapes
pub mod Life
pub mod Join
pub mod Parts
pub mod Evaluators
pub mod Straight
pub mod Run
pub mod Marks
pub mod Tape
pub mod Questions
pub mod Reply
pub mod Claim
pub mod Steps
pub mod Demand
