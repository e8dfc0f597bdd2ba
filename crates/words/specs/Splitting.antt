-- The words of a list of bytes. Assumes nothing.
use Rattle.std.specs.Prelude.{ℕ, suc, ◌≤◌, ◌<◌, ◌≡◌, List, [], ◌∷◌, eqb, length, get_or}
use Rattle.reference.specs.Control.{when◌then◌else◌}
use Rattle.reference.specs.Text.{Text, ◌≟◌}

-- a byte in front of the first word
unfoldable pub onto : ℕ → List Text → List Text
onto b [] = (b ∷ []) ∷ []
onto b (w ∷ ws) = (b ∷ w) ∷ ws

-- each word ends with a 0, the last one there or with the list
unfoldable pub split : List ℕ → List Text
split [] = []
split (b ∷ bs) = let rest = split bs in when eqb b 0 then [] ∷ rest else onto b rest

-- the place of a word in a row of words, from 0; past the end, if it is none of them
unfoldable pub number_of : List Text → Text → ℕ
number_of [] w = 0
number_of (v ∷ vs) w = let rest = number_of vs w in when v ≟ w then 0 else suc rest

-- the word that begins at `at` ends at e: the bytes between are not 0, and e is a 0 or past the last byte
pub record EndsAt (bytes : List ℕ) (at e : ℕ) : Type 0 where
  pub behind : at ≤ e
  pub within : e ≤ length bytes
  pub before : (i : ℕ) → at ≤ i → i < e → get_or bytes i 0 ≡ 0 → ⊥
  pub there : e < length bytes → get_or bytes e 0 ≡ 0
