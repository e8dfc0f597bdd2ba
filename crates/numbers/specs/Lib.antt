-- What the contracts and proofs cite besides the reference: the bits of a number (Bits), the parts of the two readers (Reading, Constants),
-- hexadecimal digits (Writing).
pub mod Bits
pub mod Reading
pub mod Constants
pub mod Writing
