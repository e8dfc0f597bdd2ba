-- The listings that fit: few tokens, little text outside numbers, no number's text past 24 bytes. The input fits, every step keeps it so, and text is
-- then at most 49,152 bytes, as demand 3 says. (Of a line that is merged and not folded yet, Weights.antt has the bounds.) Assumes nothing.
use Prim.Native.Nat.{ℕ, ◌≤◌, zero-le}
use native.Mathlib.Omega.{arith}
use native.Mathlib.Nat.{le_trans}
use mathlib.Core.Path.{◌≡◌, refl}
use mathlib.Core.Bool.{Bool, false}
use mathlib.Core.List.{List, [], ◌∷◌}
use lib.Dec.{ltb}
use borrow.Author.Tests.{ltb-false}
use Rattle.reference.specs.Control.{◌and◌}
use Rattle.reference.specs.Lists.{any}
use Rattle.reference.specs.Listing.{Token, is, Number, Listing, ◌at◌}
use Rattle.reference.specs.Claim.{sum, size, token_count, text}
use Rattle.reference.specs.Demand.{Accepted}
use Rattle.reference.proofs.Cases.{by-if, neither, true-false, pair, fails}
use Rattle.reference.proofs.Shapes.{assigns}
use Rattle.reference.proofs.Weights.{weigh, weight, total, plain, plain_text, excess, text_le, light, light_nothing, light_excess}
use Rattle.reference.proofs.Lines.{sum-remove}
use Rattle.reference.proofs.Changes.{Changes, changes-step, Removed, removed_le, removed-step}

pub record Fits (lines : Listing) : Type 0 where
  pub few : token_count lines ≤ 1024
  pub short : total plain lines ≤ 24576
  pub small : total excess lines ≡ 0

pub fits_text : {lines : Listing} → Fits lines → text lines ≤ 49152
fits_text {lines} f = omega (arith, text_le lines, f.few, f.short, f.small)

-- ---- the input

small_number : (t : Token) → (is Number t and ltb 24 (size t)) ≡ false → weigh excess t ≡ 0
unfolding weigh
small_number t e = by-if (λ (n : ℕ). n ≡ 0) (λ h. omega (arith, ltb-false 24 (size t) (fails (λ u. true-false (pair h u) e)))) (λ h. refl)

none_any {ℓ} : {A : Type ℓ} {p : A → Bool} {f : A → ℕ} → ((x : A) → p x ≡ false → f x ≡ 0) → (xs : List A) → any p xs ≡ false → sum f xs ≡ 0
none_any h [] e = refl
none_any h (x ∷ xs) e = omega (arith, h x (neither e).0, none_any h xs (neither e).1)

pub accepted-fits : {input : Listing} → Accepted input → Fits input
accepted-fits {input} ok =
    record {
      few = ok.tokens_fit;
      short = le_trans (plain_text input) ok.text_fits;
      small = none_any (λ l. none_any small_number l.tokens) input ok.numbers_fit;
    }

-- ---- a step

pub changes_fit : {lines lines' : Listing} → Changes [] [] [] lines lines' → Fits lines → Fits lines'
changes_fit h f =
    record {
      few = le_trans (changes-step h).tokens_stay f.few;
      short = omega (arith, h.weight_le plain (light_nothing plain), f.short);
      small = omega (arith, h.weight_le excess (light_nothing excess), f.small);
    }

pub removed_fit : {lines : Listing} {i : ℕ} {into : List ℕ} {lines' : Listing} → Removed lines i into lines' → Fits lines → Fits lines'
removed_fit {lines} {i} r f =
    let to = r.assigned.to in
    let none_here : weight excess (lines at i).tokens ≡ 0 = omega (arith, sum-remove (λ l. weight excess l.tokens) refl i lines, f.small) in
    record {
      few = le_trans (removed-step r).tokens_stay f.few;
      short = omega (arith, removed_le r plain (light plain (λ m n. zero-le) to.expr), f.short);
      small =
          omega (
            arith,
            removed_le r excess (light_excess (assigns (lines at i).tokens to r.assigned.assignment_is) none_here),
            f.small,
          );
    }
