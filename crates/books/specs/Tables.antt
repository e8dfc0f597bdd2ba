-- How the books' tables are written here: names in one quoted text, and what stands in a table. Assumes nothing.
use Rattle.std.specs.Prelude.{ℕ, suc, ◌≡◌, cond, List, [], ◌∷◌, eqb}
use Prim.Native.String.{String}
use Rattle.std.proofs.Math.Option.{some}
use Rattle.reference.specs.Text.{Text, bytes}
use Rattle.reference.specs.Lists.{get}

abbrev pub onto_first : ℕ → List Text → List Text
onto_first c [] = (c ∷ []) ∷ []
onto_first c (w ∷ ws) = (c ∷ w) ∷ ws

abbrev pub split : Text → List Text
split [] = [] ∷ []
split (c ∷ cs) = cond (eqb c 32) ([] ∷ split cs) (onto_first c (split cs))

-- the words of a text, cut at its spaces: `words "al ah"` is bytes "al" ∷ bytes "ah" ∷ []
abbrev pub words : String → List Text
words s = split (bytes s)

-- the characters of a list, each with a value, one after the other from v on
abbrev pub valued : ℕ → Text → List (ℕ × ℕ)
valued v [] = []
valued v (c ∷ cs) = (c, v) ∷ valued (suc v) cs

module _ {ℓ} {A : Type ℓ} where
  infix 40 ◌∈◌
  -- x stands in the table, at some place
  abbrev pub ◌∈◌ : A → List A → Type ℓ
  x ∈ xs = (i : ℕ) × (get xs i ≡ some x)
