-- What it is to solve a · x + b = w modulo 2^64, which request M-107 needs.
pub mod Solutions
