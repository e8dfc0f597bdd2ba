-- What is known of a sink after something was put into it (Sinks), and how a row tells what became of its line (Rows).
pub mod Rows
pub mod Sinks
