-- The names that are addressed: no row of the table of names is among them. Assumes nothing.
use Prim.Native.Nat.{ℕ, ◌≤◌, ◌<◌}
use mathlib.Core.Path.{◌≡◌, refl, sym}
use mathlib.Core.Bool.{Bool, true, false}
use mathlib.Core.List.{List}
use Rattle.reference.specs.Control.{not, ◌and◌}
use Rattle.reference.specs.Text.{Text, bytes, has, starts_with}
use Rattle.reference.specs.Listing.{Listing}
use Rattle.reference.specs.Run.{addressed_in}
use Rattle.reference.proofs.Cases.{not-true}
use Rattle.joining.proofs.Addressed.{addressed_slots}
use Rattle.names.specs.Families.{row_name}
use Rattle.names.proofs.Searches.{all-below, below_at}
use Rattle.lines.specs.Words.{text_of, Holds}
use Rattle.lines.specs.Fams.{Fam, fam_text}
use lib.Dec.{leb}
use borrow.Author.Tests.{lt-leb}
use Rattle.lines.proofs.fams.Families.{fam-row, fam-name}
use Rattle.plan.specs.Slots.{slot_names, Slotted}

-- the names that are addressed in a listing
pub slotted_of : (slots : Text) (words : List ℕ) (lines : Listing) → Holds slots slots words → slot_names slots words ≡ addressed_in lines → Slotted slots words
slotted_of slots words lines h e = record { holds = h; only = λ name n. rw e (addressed_slots name n lines) }

row_other : (r : ℕ) → r < 8 → starts_with (row_name r) (bytes "var_") ≡ false
unfolding all-below ◌and◌ not
row_other r h = not-true (below_at 8 (λ k. not (starts_with (row_name k) (bytes "var_"))) r tested h)
  where
    tested : all-below 8 (λ k. not (starts_with (row_name k) (bytes "var_"))) ≡ true
    tested = refl

module _ (tape area slots : Text) (words : List ℕ) {f : Fam} where
  pub row_unaddressed : Slotted slots words → f < 8 → leb 8 f ≡ has (slot_names slots words) (fam_text tape area f)
  row_unaddressed h i = rw (fam-row tape area {f = f} i, lt-leb 8 f i) (sym (h.only (row_name f) (row_other f i)))

  pub slot-addressed : {s : Text} {x : Bool} → 8 ≤ f → s ≡ text_of tape area f → x ≡ has (slot_names slots words) s
      → x ≡ has (slot_names slots words) (fam_text tape area f)
  slot-addressed i es ex = rw (fam-name tape area {f = f} i, ← es) ex
