-- Laws of the evaluators' places, answers and tests; what falls when they call each other (Bytes), that their promises determine each result
-- (Determined), and that the tests of a line say what `breaks` says (Breaking).
pub mod Left
pub mod Bytes
pub mod Ahead
pub mod Junk
pub mod Worthy
pub mod Evaluating
pub mod Whole
pub mod Determined
pub mod Profiled
pub mod Loading
pub mod Testing
pub mod Breaking
