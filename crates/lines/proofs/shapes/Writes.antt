-- `is_written`, by the token after the place. Assumes nothing.
use Prim.Native.Nat.{ℕ, suc, ◌+◌, ◌≤◌, ◌<◌}
use native.Mathlib.Omega.{arith}
use native.Mathlib.Numerals.{add-one}
use mathlib.Core.Path.{◌≡◌, refl, sym}
use mathlib.Core.Bool.{Bool, true, false, true≢false}
use mathlib.Core.List.{List, [], ◌∷◌}
use lib.ListN.{length, get_or}
use Rattle.reference.specs.Control.{not, ◌and◌, let_some◌else◌then◌}
use Rattle.reference.specs.Text.{Text, bytes, starts_with}
use Rattle.reference.specs.Shapes.{writes, is_written}
use Rattle.reference.proofs.Cases.{both, same_number}
use Rattle.lines.specs.Words.{token_of, tokens_of}
use Rattle.lines.proofs.shapes.Places.{get_at, get_past}

-- a text that begins ` = ` does not begin ` ==`: its third byte
not_equal : (s : Text) → starts_with s (bytes " = ") ≡ true → starts_with s (bytes " ==") ≡ true → ⊥
not_equal [] e f = true≢false (sym e)
not_equal (a ∷ []) e f = true≢false (sym (both e).1)
not_equal (a ∷ b ∷ []) e f = true≢false (sym (both (both e).1).1)
not_equal (a ∷ b ∷ c ∷ rest) e f =
    let p : c ≡ 32 = same_number (both (both (both e).1).1).0 in
    let q : c ≡ 61 = same_number (both (both (both f).1).1).0 in
    omega arith

without_equal : (b c : Bool) → (b ≡ true → c ≡ true → ⊥) → (b and not c) ≡ b
unfolding ◌and◌ not
without_equal true true f = absurd (f refl refl)
without_equal true false f = refl
without_equal false c f = refl

pub assign-only : (s : Text) → (starts_with s (bytes " = ") and not (starts_with s (bytes " =="))) ≡ starts_with s (bytes " = ")
assign-only s = without_equal (starts_with s (bytes " = ")) (starts_with s (bytes " ==")) (not_equal s)

module _ (tape area : Text) (ws : List ℕ) (k : ℕ) where
  pub written_is : k + 1 < length ws → is_written (tokens_of tape area ws) k ≡ writes (token_of tape area (get_or ws (k + 1) 0))
  unfolding is_written let_some◌else◌then◌
  written_is h = rw (add-one, get_at (token_of tape area) ws (suc k) (rw add-one at h))

  pub written_past : length ws ≤ k + 1 → false ≡ is_written (tokens_of tape area ws) k
  unfolding is_written let_some◌else◌then◌
  written_past h = rw (get_past (token_of tape area) ws (suc k) (rw add-one at h))
