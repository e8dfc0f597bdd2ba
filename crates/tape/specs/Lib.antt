-- What the code's values mean: bytes put into a list, commands and what stands at an offset, the questions, the commands of any bytes and
-- the listing that they hold, the walk over them.
pub mod Bytes
pub mod Commands
pub mod Questions
pub mod Held
pub mod Walk
