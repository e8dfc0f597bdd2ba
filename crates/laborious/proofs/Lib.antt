-- M-108: no listing needs more attempts (Most), and one for every number of lines needs so many (Attained) and is accepted (Tape). Writer
-- is for the code that writes its tape, Answering for the call.
pub mod Most
pub mod Attained
pub mod Tape
pub mod Writer
pub mod Answering
