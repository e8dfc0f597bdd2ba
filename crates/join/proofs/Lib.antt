-- Laws that the proofs of an attempt cite: the same slices lent on (Lending); one line of the new listing (Placing) and the room that it has
-- (Rows, Needing, Sparing); the loop that writes all lines anew (Building), the loop that writes the changed ones (Patching) and the removal of
-- a word (Removing); the way back into the first set (Bringing); what an attempt answers (Trying); marks handed on (Carrying);
-- the tables of cautions (Cautioning).
pub mod Lending
pub mod Placing
pub mod Rows
pub mod Needing
pub mod Sparing
pub mod Building
pub mod Bringing
pub mod Removing
pub mod Patching
pub mod Trying
pub mod Carrying
pub mod Cautioning
