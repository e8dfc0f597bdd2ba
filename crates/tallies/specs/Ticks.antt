-- What the ticks of the page's sheet say, of the two tapes of a cleaning and of the number of lines that it removed. Proved of every
-- cleaning in proofs/Ticking.antt. Assumes nothing.
use Rattle.std.specs.Prelude.{ℕ, ◌+◌, ◌≤◌, ◌≡◌, length}
use mathlib.Core.List.{List, Sublistᴰ}
use Rattle.reference.specs.Listing.{Listing}
use Rattle.reference.specs.Claim.{Callee, calls, label_lines, token_count, text}
use Rattle.tape.specs.Held.{held}

-- each callee is called at least as often as before
pub record CallsStay (before after : Listing) : Type 0 where
  pub as_often : (c : Callee) → calls c before ≤ calls c after

pub record Ticks (tape cleaned : List ℕ) (removed : ℕ) : Type 0 where
  pub calls_stay : CallsStay (held tape) (held cleaned)
  pub labels_stand : Sublistᴰ (label_lines (held tape)) (held cleaned)
  pub lines_gone : length (held cleaned) + removed ≡ length (held tape)
  pub tokens_stay : token_count (held cleaned) ≤ token_count (held tape)
  pub text_bounded : text (held cleaned) ≤ 49152
