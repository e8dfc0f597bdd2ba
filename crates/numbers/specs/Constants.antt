-- The parts of `parse_2024` that the functions compute, under a name each. Assumes nothing.
use Rattle.std.specs.Prelude.{◌≡◌, ℕ, ◌<◌, ◌≤◌, Bool, true, false, length, ℤ}
use Rattle.std.proofs.Math.Option.{Option, none, some}
use Rattle.reference.specs.Control.{let_some◌else◌then◌}
use Rattle.reference.specs.Text.{Text}
use Rattle.reference.specs.Numbers.{digits_value, unquoted, as_i64}
use Rattle.numbers.specs.Reading.{at_most}

-- what a row comes to after the number v; `digit` tells that a digit stands just before
unfoldable pub row_after : ℕ → Bool → ℕ → Text → Option ℕ
row_after radix digit v s = let_some (unquoted digit s) else none then λ ds. digits_value radix v ds

-- r is what stands behind a digit, s, without the quote in front: there a digit must stand, where in s a quote may
pub record PastQuote (s r : Text) : Type 0 where
  pub no_longer : length r ≤ length s
  pub means : (radix v : ℕ) → 0 < length s → row_after radix true v s ≡ row_after radix false v r

-- a whole row
abbrev pub row : ℕ → Text → Option ℕ
row radix s = row_after radix false 0 s

-- a row of a number that is at most `most`, as an i64
unfoldable pub sized : ℕ → ℕ → Text → Option ℤ
sized radix most s = let_some (at_most most (row radix s)) else none then λ n. some (as_i64 n)
