-- Laws that the proofs of the builder cite, from the ground up: the same slices lent on (Lending); what the stores of an append come to
-- (Appending), and what stays as it was (Growing); pushes are `merge` (Merging), one push (Pushing) and several (Pushes), and a line with a
-- right side for each token of a family (Substituting); folds (Folding), in place (Stepping), of the last line (FoldedLast), and the text that
-- they make (Rooms); a new line (LineAdding) and its word (Adding). For callers: what an appended line leaves of a listing (Listing).
pub mod Lending
pub mod Appending
pub mod Growing
pub mod Merging
pub mod Pushing
pub mod Pushes
pub mod Substituting
pub mod Folding
pub mod Stepping
pub mod FoldedLast
pub mod Rooms
pub mod LineAdding
pub mod Adding
pub mod Listing
