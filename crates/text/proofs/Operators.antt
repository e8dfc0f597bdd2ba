-- The row of bytes that an operator begins with is looked for at the first byte. Assumes nothing.
use mathlib.Core.Path.{◌≡◌, refl}
use mathlib.Core.Bool.{false}
use mathlib.Core.List.{[], ◌∷◌}
use native.Mathlib.Omega.{arith}
use lib.ListN.{length, get_or}
use Rattle.reference.specs.Text.{Text, bytes, contains}
use Rattle.reference.specs.Join.{starts_with_operator}

pub no_operator : (t : Text) → length t ≡ 0 → starts_with_operator t ≡ false
unfolding starts_with_operator
no_operator [] e = refl
no_operator (x ∷ t) e = absurd (omega arith)

pub first-operator : (t : Text) → (length t ≡ 0 → ⊥) → starts_with_operator t ≡ contains (bytes "+-*/&|^<>=") (get_or t 0 0)
unfolding starts_with_operator
first-operator [] n = absurd (n refl)
first-operator (x ∷ t) n = refl

pub ruleset first_byte = (no_operator, first-operator)
