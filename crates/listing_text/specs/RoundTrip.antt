-- Issue 28: "show then tape is the identity on accepted tapes". Proved in proofs/ReadBack.antt. Assumes nothing.
use Rattle.std.specs.Prelude.{ℕ, ◌≡◌, true, List}
use Rattle.std.proofs.Math.Option.{none}
use Rattle.listing_text.specs.Showing.{shown}
use Rattle.listing_text.specs.Exact.{tape_of}

-- the text that a tape has in the exact form is read as that tape, and no line of it is wrong
abbrev pub ReadsBack : List ℕ → Type 0
ReadsBack tape = tape_of (shown true tape).text ≡ record { bytes = tape; wrong = none }
