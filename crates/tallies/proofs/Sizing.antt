-- Lines, tokens and bytes of text: those so far with those of the commands to come. Assumes nothing.
use Prim.Native.Nat.{ℕ, ◌+◌}
use native.Mathlib.Omega.{arith}
use mathlib.Core.Path.{◌≡◌, refl, ap}
use mathlib.Core.List.{List, [], ◌∷◌}
use lib.Dec.{eqb}
use lib.ListN.{length}
use borrow.Author.Tests.{eq-eqb, ne_eqb}
use Rattle.reference.specs.Text.{Text}
use Rattle.reference.specs.Listing.{Token, token}
use Rattle.reference.specs.Claim.{token_count, text_in, text as text_of}
use Rattle.reference.specs.Tape as Tape
use Rattle.laws.proofs.Scans.{if-true, if-false}
use Rattle.tape.specs.Questions.{sizes_in}
use Rattle.reference.specs.Control.{when◌then◌else◌}
use Rattle.tape.specs.Held.{tokens_of, lines_of}
use Rattle.tallies.specs.declared.sizes.Sizes.{Sizes}
use Rattle.tallies.specs.Counting.{Counts, CountsLine, first_tokens, sizes_of, sizes_with}
use Rattle.tallies.proofs.Adding.{if-same}

pub same_sizes : {s t : Sizes} → s.lines ≡ t.lines → s.tokens ≡ t.tokens → s.text ≡ t.text → s ≡ t
same_sizes a b c = λ i. record { lines = a i; tokens = b i; text = c i }

opened : (n : ℕ) (more : List Tape.Command) → first_tokens (n + 1) more ≡ tokens_of more
opened n more = if-false _ _ (ne_eqb (n + 1) 0 (λ e. omega arith))

pub sizes_end : (s : Sizes) → s ≡ sizes_with s []
sizes_end s =
    let closed : first_tokens s.lines [] ≡ [] = if-same (eqb s.lines 0) [] in
    same_sizes (omega arith) (omega (arith, ap (λ (ts : List Token). length ts) closed)) (omega (arith, ap text_in closed))

pub sizes_line : (s : Sizes) → CountsLine sizes_with s (record { lines = s.lines + 1; tokens = s.tokens; text = s.text })
sizes_line s = record {
  line = λ address indent. record {
    adds = λ more.
        (let closed : first_tokens s.lines (Tape.new_line address indent ∷ more) ≡ [] = if-same (eqb s.lines 0) [] in
        let begun : first_tokens (s.lines + 1) more ≡ tokens_of more = opened s.lines more in
        same_sizes (omega arith)
        (omega (arith, ap (λ (ts : List Token). length ts) closed, ap (λ (ts : List Token). length ts) begun))
        (omega (arith, ap text_in closed, ap text_in begun)));
  };
}

module _ (s : Sizes) (kind : ℕ) (t : Text) where
  pub token-in_none : s.lines ≡ 0 → Counts sizes_with (Tape.new_token (token kind t)) s s
  token-in_none e = record {
    adds = λ more.
        (let before : first_tokens s.lines (Tape.new_token (token kind t) ∷ more) ≡ [] = if-true _ _ (eq-eqb s.lines 0 e) in
        let after : first_tokens s.lines more ≡ [] = if-true _ _ (eq-eqb s.lines 0 e) in
        same_sizes refl
        (omega (arith, ap (λ (ts : List Token). length ts) before, ap (λ (ts : List Token). length ts) after))
        (omega (arith, ap text_in before, ap text_in after)));
  }

  pub sizes_token : (s.lines ≡ 0 → ⊥)
      → Counts sizes_with (Tape.new_token (token kind t)) s (record { lines = s.lines; tokens = s.tokens + 1; text = s.text + length t })
  sizes_token n = record {
    adds = λ more.
        (let before : first_tokens s.lines (Tape.new_token (token kind t) ∷ more) ≡ token kind t ∷ tokens_of more = if-false _ _ (ne_eqb s.lines 0 n) in
        let after : first_tokens s.lines more ≡ tokens_of more = if-false _ _ (ne_eqb s.lines 0 n) in
        same_sizes refl
        (omega (arith, ap (λ (ts : List Token). length ts) before, ap (λ (ts : List Token). length ts) after))
        (omega (arith, ap text_in before, ap text_in after)));
  }

-- with nothing counted yet
pub sizes_all : (cs : List Tape.Command) → sizes_of (sizes_with (record { lines = 0; tokens = 0; text = 0 }) cs) ≡ sizes_in (lines_of cs)
unfolding when◌then◌else◌
sizes_all cs =
    let l : 0 + length (lines_of cs) ≡ length (lines_of cs) = omega arith in
    let n : 0 + (0 + token_count (lines_of cs)) ≡ token_count (lines_of cs) = omega arith in
    let t : 0 + (0 + text_of (lines_of cs)) ≡ text_of (lines_of cs) = omega arith in
    λ i. record { lines = l i; tokens = n i; text = t i }
