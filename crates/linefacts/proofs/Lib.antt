-- Laws of the facts: bits of numbers and of tokens, what facts say of a transparent and of a calling line, and the facts that are made.
pub mod Bits
pub mod Tokens
pub mod Lacking
pub mod Making
