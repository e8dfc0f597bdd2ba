-- `label_tokens` and `lone_number`, which go by how many tokens there are. Assumes nothing.
use Prim.Native.Nat.{ℕ}
use native.Mathlib.Omega.{arith}
use mathlib.Core.Path.{◌≡◌, refl}
use mathlib.Core.Bool.{false}
use mathlib.Core.List.{List, [], ◌∷◌}
use lib.ListN.{length, get_or}
use Rattle.reference.specs.Control.{◌and◌}
use Rattle.reference.specs.Text.{Text, bytes, ◌≟◌}
use Rattle.reference.specs.Listing.{is, Symbol, Number}
use Rattle.reference.specs.Shapes.{label_tokens}
use Rattle.reference.specs.Join.{lone_number}
use Rattle.lines.specs.Words.{text_of, token_of, tokens_of}

module _ (tape area : Text) where
  pub label-not : (ws : List ℕ) → (length ws ≡ 2 → ⊥) → false ≡ label_tokens (tokens_of tape area ws)
  unfolding label_tokens
  label-not [] n = refl
  label-not (a ∷ []) n = refl
  label-not (a ∷ b ∷ []) n = absurd (n refl)
  label-not (a ∷ b ∷ c ∷ rest) n = refl

  pub label_two : (ws : List ℕ) → length ws ≡ 2
      → label_tokens (tokens_of tape area ws) ≡ ((text_of tape area (get_or ws 1 0) ≟ bytes ":") and is Symbol (token_of tape area (get_or ws 0 0)))
  unfolding label_tokens
  label_two [] e = absurd (omega arith)
  label_two (a ∷ []) e = absurd (omega arith)
  label_two (a ∷ b ∷ []) e = refl
  label_two (a ∷ b ∷ c ∷ rest) e = absurd (omega arith)

  pub lone-not : (ws : List ℕ) → (length ws ≡ 1 → ⊥) → false ≡ lone_number (tokens_of tape area ws)
  unfolding lone_number
  lone-not [] n = refl
  lone-not (a ∷ []) n = absurd (n refl)
  lone-not (a ∷ b ∷ rest) n = refl

  pub lone_one : (ws : List ℕ) → length ws ≡ 1 → is Number (token_of tape area (get_or ws 0 0)) ≡ lone_number (tokens_of tape area ws)
  unfolding lone_number
  lone_one [] e = absurd (omega arith)
  lone_one (a ∷ []) e = refl
  lone_one (a ∷ b ∷ rest) e = absurd (omega arith)
