-- Laws that the crates of the calls cite: on the numbers of reasons (Numbers).
pub mod Numbers
