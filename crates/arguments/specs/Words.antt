-- The first word of a slice of words. Assumes nothing.
use Rattle.std.specs.Prelude.{ℕ, ◌+◌, ◌≤◌, ◌<◌, ◌≡◌, Bool, false, List, ◌∷◌, length, eqb, Option, Some, None}
use Rattle.words.specs.Splitting.{split}

-- the first word, and what stands behind it; a byte between the two ends the word, where there is anything behind it
pub record FirstWord (words word rest : List ℕ) : Type 0 where
  pub splits : split words ≡ word ∷ split rest
  pub within : length word + length rest ≤ length words
  pub falls : length rest < length words
  pub ended : 0 < length rest → length word + length rest + 1 ≤ length words

-- whether word k is the one that was taken
abbrev pub is_at : Option ℕ → ℕ → Bool
is_at (Some n) k = eqb n k
is_at None k = false
