-- The row of a word, as a search of std finds it. Assumes nothing.
use Rattle.std.proofs.Common.{◌≡◌, Bool, true, false, List, [], ◌∷◌, map, Option, Some, None, option_map, find, cond, refl, ap, ◌∙◌, eqb}
use lib.Pointwise.{pointwise}
use Rattle.std.specs.Borrow.{Bor}
use Rattle.reference.specs.Control.{when◌then◌else◌}
use Rattle.reference.specs.Text.{Text, ◌≟◌}
use Rattle.laws.proofs.Std.{same-std}
use Rattle.arguments.specs.Tables.{row_of, meaning_in}

module _ {A : Type 0} (w : Text) where
  -- whether a row is the word's
  abbrev pub is_row : Bor Text × A → Bool
  is_row r = pointwise eqb r.0.now w

  found : (rows : List (Bor Text × A)) → option_map (λ r. r.1) (find is_row rows) ≡ meaning_in (map row_of rows) w
  unfolding meaning_in when◌then◌else◌
  found [] = refl
  found (r ∷ rows) = either (is_row r) (same-std r.0.now w) (found rows)
    where
      either : (b : Bool) → b ≡ (r.0.now ≟ w) → option_map (λ r. r.1) (find is_row rows) ≡ meaning_in (map row_of rows) w
          → option_map (λ r. r.1) (cond b (Some r) (find is_row rows)) ≡ (when r.0.now ≟ w then Some r.1 else meaning_in (map row_of rows) w)
      either true e f = rw (← e) refl
      either false e f = rw (← e) f

  pub meaning_found : (rows : List (Bor Text × A)) (r : Option (Bor (Bor Text × A))) → option_map (λ b. b.now) r ≡ find is_row rows
      → option_map (λ b. b.now.1) r ≡ meaning_in (map row_of rows) w
  meaning_found rows None e = ap (option_map (λ r. r.1)) e ∙ found rows
  meaning_found rows (Some b) e = ap (option_map (λ r. r.1)) e ∙ found rows
