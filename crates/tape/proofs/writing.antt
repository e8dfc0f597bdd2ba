-- Laws of the commands that are put into a lent slice.
pub mod Putting
