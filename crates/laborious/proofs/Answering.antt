-- What the call answers, step by step, as the code asks; and that what it writes is the most laborious (`answered-most`). Assumes nothing.
use Prim.Native.Nat.{ℕ, ◌≤◌, ◌<◌}
use native.Mathlib.Nat.{zero-add}
use mathlib.Core.Path.{◌≡◌, refl, ap, subst, ◌∙◌}
use mathlib.Core.List.{List}
use lib.ListN.{length}
use lib.Seq.{take-length}
use borrow.Author.Tests.{leb-true, le-leb, lt-leb}
use Rattle.reference.specs.Control.{when◌then◌else◌}
use Rattle.reference.specs.Questions.{Refused, Passed, ask}
use Rattle.reference.proofs.Reading.{passed_inj, ask_passed}
use Rattle.text.specs.Cursor.{Written}
use Rattle.answers.specs.Answers.{Writes}
use Rattle.laborious.specs.Listing.{laborious_tape, laborious_reply, MostLaborious}
use Rattle.laborious.proofs.Tape.{most-laborious}

module _ (n : ℕ) (out : List ℕ) where
  pub many : 256 < n → Writes (laborious_reply n (length out)) out out (Refused 17 0)
  unfolding laborious_reply ask when◌then◌else◌
  many h = rw (lt-leb n 256 h) (record { reply_is = refl; output_is = refl })

  module _ (few : n ≤ 256) where
    pub short : length out < 59137 → Writes (laborious_reply n (length out)) out out (Refused 2 0)
    unfolding laborious_reply ask when◌then◌else◌
    short h = rw (le-leb n 256 few, lt-leb 59137 (length out) h) (record { reply_is = refl; output_is = refl })

    pub enough : {out' : List ℕ} {k : ℕ} → 59137 ≤ length out → Written out 0 (laborious_tape n) out' k
        → Writes (laborious_reply n (length out)) out out' (Passed k)
    unfolding laborious_reply ask when◌then◌else◌
    enough h f =
        rw (le-leb n 256 few, le-leb 59137 (length out) h)
        (record { reply_is = ap Passed (f.end_is ∙ zero-add _); output_is = f.bytes_are ∙ rw (take-length, zero-add) refl })

-- M-108: what the call writes, where it is not refused
pub answered-most : (n output : ℕ) (tape : List ℕ) → laborious_reply n output ≡ Passed tape → MostLaborious n tape
unfolding laborious_reply
answered-most n output tape e =
    let r = ask_passed _ _ _ tape e in
    subst (MostLaborious n) (passed_inj r.1) (most-laborious n (leb-true _ _ r.0.0))
