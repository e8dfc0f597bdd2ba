-- What a scan for comparisons says of the bytes that come. Assumes nothing.
use Rattle.std.specs.Prelude.{ℕ, Bool, List, [], ◌∷◌, map, eqb}
use Rattle.reference.specs.Control.{not, ◌and◌, ◌or◌}
use Rattle.reference.specs.Lists.{any}
use Rattle.reference.specs.Text.{Text, bytes, starts_with}
use Rattle.cautions.specs.Uses.{compares}
use Rattle.flow.specs.declared.comparing.Comparing.{Comparing}

-- those of `compares`
abbrev pub COMPARISONS : List Text
COMPARISONS = map bytes (" == " ∷ " != " ∷ " < " ∷ " > " ∷ " <= " ∷ " >= " ∷ [])

unfoldable pub begins : Text → Bool
begins s = any (λ c. starts_with s c) COMPARISONS

-- the same of four bytes: a space, and then a sign alone or with a `=` (61), and a space
unfoldable pub alone : ℕ → ℕ → ℕ → Bool
alone s b c = eqb b s and eqb c 32

unfoldable pub with_equals : ℕ → ℕ → ℕ → ℕ → Bool
with_equals s b c d = eqb b s and eqb c 61 and eqb d 32

unfoldable pub compares_in : ℕ → ℕ → ℕ → Bool
compares_in b c d =
    with_equals 61 b c d or with_equals 33 b c d or alone 60 b c or alone 62 b c or with_equals 60 b c d or with_equals 62 b c d

unfoldable pub begins_at : ℕ → ℕ → ℕ → ℕ → Bool
begins_at a b c d = eqb a 32 and compares_in b c d

-- whether the whole is 0 or 1, where s is what follows
unfoldable pub compared : Comparing → Text → Bool
compared m s = m.found or (not m.begun and starts_with s (bytes "!")) or compares (m.first ∷ m.second ∷ m.third ∷ s)
