-- That no escaped text leaves its cell (Escaped), and laws of what is put: a cell (Putting), the cells of a line (Rowing), the words
-- of a kind (Signing).
pub mod Escaped
pub mod Putting
pub mod Rowing
pub mod Signing
