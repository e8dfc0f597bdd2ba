-- Laws of bytes that are put into a list, which the crates that write cite.
pub mod Bytes
