-- Laws of the walk over a tape's commands: by what stands at their head (Following), of bytes that were written as commands (Reading), how many bytes
-- they take (Spending), what a listing is written as (Written), of an accepted tape (Accepted), of loops over the commands (Loops).
pub mod Following
pub mod Reading
pub mod Spending
pub mod Written
pub mod Accepted
pub mod Places
pub mod Loops
