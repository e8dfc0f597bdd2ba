-- Braces without a partner: one byte more, and what they say of the definitions' depth. Assumes nothing.
use Prim.Native.Nat.{ℕ, suc, pred, ◌+◌, ◌-◌, ◌≤◌}
use native.Mathlib.Omega.{arith}
use native.Mathlib.Decide.{dec_lt}
use mathlib.Core.Path.{◌≡◌, refl}
use mathlib.Core.Logic.{by_cases}
use mathlib.Core.List.{◌∷◌, ◌++◌}
use lib.Dec.{eqb}
use borrow.Author.Tests.{eq-eqb, ne_eqb}
use Rattle.laws.proofs.Scans.{if-true, if-false}
use lib.ListN.{length, take}
use lib.Seq.{take_all}
use Rattle.std.proofs.lemmas.List.{take-append-le}
use Rattle.reference.specs.Control.{when◌then◌else◌}
use Rattle.reference.specs.Text.{Text}
use Rattle.flow.specs.Spelling.{in_front, unmatched, joined}

pair_same : {a b c d : ℕ} → a ≡ b → c ≡ d → ◌≡◌ {A = ℕ × ℕ} (a, c) (b, d)
pair_same e f = rw (e, f) refl

opened : (c o C O : ℕ) → ◌≡◌ {A = ℕ × ℕ} (c + (C - (o + 1)), O + ((o + 1) - C)) (joined (c, o) (when eqb C 0 then (0, suc O) else (pred C, O)))
unfolding joined
opened c o C O =
    by_cases (dec_lt 0 C)
    (λ n. rw (if-false {A = ℕ × ℕ} (0, suc O) (pred C, O) (ne_eqb C 0 (λ e. omega arith))) (pair_same (omega arith) (omega arith)))
    (λ n. let e : C ≡ 0 = omega arith in rw (if-true {A = ℕ × ℕ} (0, suc O) (pred C, O) (eq-eqb C 0 e)) (pair_same (omega arith) (omega arith)))

module _ (c o : ℕ) (s : Text) where
  pub open_more : joined (c, o + 1) (unmatched s) ≡ joined (c, o) (unmatched (123 ∷ s))
  unfolding unmatched in_front joined when◌then◌else◌
  open_more = opened c o (unmatched s).0 (unmatched s).1

  pub close_more : o ≡ 0 → joined (c + 1, o) (unmatched s) ≡ joined (c, o) (unmatched (125 ∷ s))
  unfolding unmatched in_front joined when◌then◌else◌
  close_more e = pair_same (omega arith) (omega arith)

  pub close_partner : (o ≡ 0 → ⊥) → joined (c, o - 1) (unmatched s) ≡ joined (c, o) (unmatched (125 ∷ s))
  unfolding unmatched in_front joined when◌then◌else◌
  close_partner n = pair_same (omega arith) (omega arith)

  pub no_brace : (b : ℕ) → (b ≡ 123 → ⊥) → (b ≡ 125 → ⊥) → joined (c, o) (unmatched s) ≡ joined (c, o) (unmatched (b ∷ s))
  unfolding unmatched in_front when◌then◌else◌
  no_brace b m n = rw (ne_eqb b 123 m, ne_eqb b 125 n) refl

-- ---- the first ten bytes

-- no room is left
pub ten_full : (xs : Text) (n : ℕ) (s : Text) → length xs ≡ 10 → 10 ≤ n → take 10 (take n xs ++ s) ≡ xs
ten_full xs n s e h =
    let a : take n xs ≡ xs = take_all n xs (omega arith) in
    let b : take 10 (xs ++ s) ≡ take 10 xs = take-append-le 10 xs s (omega arith) in
    rw (a, b) (take_all 10 xs (omega arith))
