-- The other lines that a value reaches, line by line, as the code asks. Assumes nothing.
use Rattle.std.specs.Prelude.{ℕ, ◌<◌, ◌≡◌, Bool, false, List, eqb, ltb, length, get_or}
use Rattle.std.specs.Prelude as std
use Rattle.reference.specs.Control.{not, ◌and◌, ◌or◌}
use Rattle.reference.specs.Text.{Text}
use Rattle.reference.specs.Listing.{Listing}
use Rattle.cautions.specs.Kinds.{odd_form, still_read, ◌∪◌, ◌given◌}
use Rattle.cautions.specs.Forms.{ways, is_dark}
use Rattle.flow.specs.Reaching.{is_stale}
use Rattle.usefacts.specs.declared.parts.Before.{Before}
use Rattle.raising.specs.Spread.{is_noted}
use Rattle.raising.specs.declared.spreading.Others.{Others}

module _ (lines : Listing) (i : ℕ) (parts : List (std.Option Before)) where
  -- neither line i nor one that the join rewrites
  unfoldable pub is_other : ℕ → Bool
  is_other k = ltb k (length lines) and not (eqb k i or is_noted parts k)

  -- and it is not looked into
  unfoldable pub dark_at : ℕ → Bool
  dark_at k = is_other k and is_dark lines (ways lines) k

  -- or it is, and reads the family
  unfoldable pub stale_at : Text → ℕ → Bool
  stale_at fam k = is_other k and is_stale lines fam k

-- a set with what a line gets of which the code found this
unfoldable pub with_kinds : ℕ → Others → ℕ
with_kinds s o = (s ∪ still_read given o.stale) ∪ odd_form given o.dark

-- of n sets each is with what its line gets, by the table of the lines that are reached
pub record Marked (lines : Listing) (i : ℕ) (fam : Text) (parts : List (std.Option Before)) (seen : List Bool) (n : ℕ) (sets sets' : List ℕ)
    : Type 0 where
  pub long : length sets' ≡ length sets
  pub each : (k : ℕ) → k < n → get_or sets' k 0
      ≡ (get_or sets k 0 ∪ still_read given (get_or seen k false and stale_at lines i parts fam k))
      ∪ odd_form given (get_or seen k false and dark_at lines i parts k)
