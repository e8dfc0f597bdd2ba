-- The parts of a text between separators: fields, words and lines. Assumes nothing.
use Rattle.std.specs.Prelude.{ℕ, zero, suc, List, [], ◌∷◌, eqb}
use Rattle.reference.specs.Control.{when◌then◌else◌}
use Rattle.reference.specs.Text.{Text}

-- what stands before the first b; all where there is none
unfoldable pub before : Text → ℕ → Text
before [] b = []
before (x ∷ xs) b = let r = before xs b in when eqb x b then [] else x ∷ r

-- what stands behind the first b; nothing where there is none
unfoldable pub behind : Text → ℕ → Text
behind [] b = []
behind (x ∷ xs) b = let r = behind xs b in when eqb x b then xs else r

-- ---- words, which stand one space apart and may be empty

-- what stands behind the first n words
abbrev pub behind_words : ℕ → Text → Text
behind_words zero line = line
behind_words (suc n) line = behind_words n (behind line 32)

-- the word that n words stand before
abbrev pub word : ℕ → Text → Text
word n line = before (behind_words n line) 32

-- ---- lines, each ended by a line feed, which the last may lack

abbrev pub with_byte : ℕ → List Text → List Text
with_byte x [] = (x ∷ []) ∷ []
with_byte x (line ∷ rest) = (x ∷ line) ∷ rest

unfoldable pub lines : Text → List Text
lines [] = []
lines (x ∷ xs) = let r = lines xs in when eqb x 10 then [] ∷ r else with_byte x r
