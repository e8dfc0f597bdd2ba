-- The pieces that std's `split` gives of a row are its words, but for an empty piece behind a last 0. Assumes nothing.
use Prim.Native.Nat.{ℕ, zero, suc}
use mathlib.Core.Path.{◌≡◌, refl, ap, ◌∙◌}
use mathlib.Core.Bool.{Bool, true, false, cond}
use mathlib.Core.List.{List, [], ◌∷◌}
use lib.ListN.{get_or}
use lib.Dec.{eqb}
use Rattle.std.specs.List.{slice_split, onto_first, slice_get}
use Rattle.std.specs.Option.{unwrap_or, option_map}
use Rattle.std.specs.Prelude.{Option, Some, None}
use denote.Ref.{Bor}
use Rattle.reference.specs.Control.{when◌then◌else◌}
use Rattle.reference.specs.Text.{Text}
use Rattle.words.specs.Splitting.{onto, split}

abbrev pieces : List ℕ → List Text
pieces s = slice_split (λ b. eqb b 0) s

-- two rows of texts that have the same texts at every place, where a place past the end has no byte
abbrev Same : List Text → List Text → Type 0
Same vs ws = (n : ℕ) → get_or vs n [] ≡ get_or ws n []

behind : (v w : Text) (vs ws : List Text) → v ≡ w → Same vs ws → Same (v ∷ vs) (w ∷ ws)
behind v w vs ws e h zero = e
behind v w vs ws e h (suc n) = h n

onto-same : (b : ℕ) (vs ws : List Text) → Same vs ws → Same (onto_first b vs) (onto b ws)
unfolding onto
onto-same b [] [] h n = refl
onto-same b [] (w ∷ ws) h zero = ap (λ (t : Text). b ∷ t) (h zero)
onto-same b [] (w ∷ ws) h (suc n) = h (suc n)
onto-same b (v ∷ vs) [] h zero = ap (λ (t : Text). b ∷ t) (h zero)
onto-same b (v ∷ vs) [] h (suc n) = h (suc n)
onto-same b (v ∷ vs) (w ∷ ws) h zero = ap (λ (t : Text). b ∷ t) (h zero)
onto-same b (v ∷ vs) (w ∷ ws) h (suc n) = h (suc n)

pieces-same : (s : List ℕ) → Same (pieces s) (split s)
unfolding split when◌then◌else◌
pieces-same [] zero = refl
pieces-same [] (suc n) = refl
pieces-same (b ∷ s) n = by (eqb b 0) (pieces-same s) n
  where
    by : (t : Bool) → Same (pieces s) (split s)
        → Same (cond t ([] ∷ pieces s) (onto_first b (pieces s))) (when t then ([] ∷ split s) else onto b (split s))
    by true h = behind [] [] (pieces s) (split s) refl h
    by false h = onto-same b (pieces s) (split s) h

at-place : (ws : List Text) (n : ℕ) → unwrap_or (slice_get ws n) [] ≡ get_or ws n []
at-place [] n = refl
at-place (w ∷ ws) zero = refl
at-place (w ∷ ws) (suc n) = at-place ws n

-- what `nth` and `unwrap_or` answer of the pieces
pub nth-piece : (s : List ℕ) (n : ℕ) (r : Option (Bor (List ℕ))) (d : Bor (List ℕ)) → d.now ≡ []
    → option_map (λ (x : Bor (List ℕ)). x.now) r ≡ slice_get (pieces s) n → (unwrap_or r d).now ≡ get_or (split s) n []
nth-piece s n r d e h = read r ∙ rw (h, e) (at-place (pieces s) n ∙ pieces-same s n)
  where
    read : (r : Option (Bor (List ℕ))) → (unwrap_or r d).now ≡ unwrap_or (option_map (λ (x : Bor (List ℕ)). x.now) r) d.now
    read (Some x) = refl
    read None = refl
