-- Rows of truths as numbers: `|` joins them place by place, a bit is the truth at its place, and what a row of tests says of one token more.
-- Each is said once, of every row. Assumes nothing.
use Prim.Native.Nat.{ℕ, zero, suc, ◌+◌, ◌*◌, ◌/◌, ◌%◌, ◌^◌, ◌<◌}
use native.Mathlib.Omega.{arith}
use native.Mathlib.Nat.{pow-suc}
use mathlib.Core.Path.{◌≡◌, refl, sym, ◌∙◌}
use mathlib.Core.Bool.{Bool, true, false}
use mathlib.Core.List.{List, [], ◌∷◌, ◌++◌, map}
use lib.Bits.{bit_or, or_block, or_comm}
use lib.Dec.{eqb}
use lib.ListN.{length, get_or, replicate}
use lib.Pow.{shl_exact}
use Rattle.std.proofs.lemmas.Nat.Bits.{bit_at_lowest, bit_at-suc, bit_at-zero}
use Rattle.reference.specs.Control.{◌or◌, when◌then◌else◌}
use Rattle.reference.specs.Lists.{any}
use Rattle.reference.specs.Listing.{Token}
use Rattle.laws.proofs.Scans.{any_append, or_last}
use Rattle.lines.specs.Traits.{number, only, answers}

-- ---- two rows

-- at each place whether one of two truths holds
unfoldable pub either : List Bool → List Bool → List Bool
either [] ys = ys
either (x ∷ xs) [] = x ∷ xs
either (x ∷ xs) (y ∷ ys) = (x or y) ∷ either xs ys

one_or : (a b : Bool) → bit_or (when a then 1 else 0) (when b then 1 else 0) ≡ (when a or b then 1 else 0)
unfolding ◌or◌ when◌then◌else◌
one_or true true = refl
one_or true false = refl
one_or false true = refl
one_or false false = refl

one_below : (a : Bool) → (when a then 1 else 0) < 2 ^ 1
unfolding when◌then◌else◌
one_below true = omega arith
one_below false = omega arith

pub number_or : (xs ys : List Bool) → bit_or (number xs) (number ys) ≡ number (either xs ys)
unfolding number either
number_or [] ys = refl
number_or (x ∷ xs) [] = or_comm _ 0
number_or (x ∷ xs) (y ∷ ys) =
    or_block 1 (number xs) (number ys) (when x then 1 else 0) (when y then 1 else 0) (one_below x) (one_below y)
    ∙ rw (number_or xs ys, one_or x y)

-- a row of tests, asked of some tokens and of one more
pub more_tokens : (t : Token) (ts : List Token) (tests : List (Token → Bool))
    → either (map (λ (p : Token → Bool). any p ts) tests) (answers tests t) ≡ map (λ (p : Token → Bool). any p (ts ++ (t ∷ []))) tests
unfolding either
more_tokens t ts [] = refl
more_tokens t ts (p ∷ tests) = rw (any_append p ts (t ∷ []), or_last (p t), more_tokens t ts tests)

-- what does not hold may stand behind a row
falses : (n : ℕ) → number (replicate n false) ≡ 0
unfolding number when◌then◌else◌
falses zero = refl
falses (suc n) = rw (falses n)

pub number_longer : (xs : List Bool) (n : ℕ) → number xs ≡ number (xs ++ replicate n false)
unfolding number
number_longer [] n = sym (falses n)
number_longer (x ∷ xs) n = rw (number_longer xs n)

-- ---- one truth, shifted to its place

number_true : (i : ℕ) → number (only i true) ≡ 2 ^ i
unfolding number only when◌then◌else◌
number_true zero = refl
number_true (suc i) = rw (number_true i) (omega (arith, pow-suc 2 i))

number_false : (i : ℕ) → number (only i false) ≡ 0
unfolding number only when◌then◌else◌
number_false zero = refl
number_false (suc i) = rw (number_false i)

pub bit_true : (i : ℕ) → i < 64 → {b : Bool} → b ≡ true → (1 * 2 ^ i) % 2 ^ 64 ≡ number (only i b)
bit_true i h e = rw (e, number_true) (shl_exact {a = 1} 1 i 64 (omega arith) (omega arith) ∙ omega arith)

pub bit_false : (i : ℕ) → {b : Bool} → b ≡ false → 0 ≡ number (only i b)
bit_false i e = rw (e, number_false)

-- ---- a bit is the truth at its place

pub number_below : (xs : List Bool) → number xs < 2 ^ length xs
unfolding number
number_below [] = omega arith
number_below (x ∷ xs) = omega (arith, one_below x, number_below xs, pow-suc 2 (length xs))

number_bit : (xs : List Bool) (i : ℕ) → number xs / 2 ^ i % 2 ≡ (when get_or xs i false then 1 else 0)
unfolding number when◌then◌else◌
number_bit [] i = bit_at-zero i
number_bit (x ∷ xs) zero = bit_at_lowest (number xs * 2 + (when x then 1 else 0)) ∙ omega (arith, one_below x)
number_bit (x ∷ xs) (suc i) =
    let h : (number xs * 2 + (when x then 1 else 0)) / 2 ≡ number xs = omega (arith, one_below x) in
    bit_at-suc (number xs * 2 + (when x then 1 else 0)) i ∙ rw h (number_bit xs i)

one_is : (b : Bool) → eqb (when b then 1 else 0) 1 ≡ b
unfolding when◌then◌else◌
one_is true = refl
one_is false = refl

answer_at : (t : Token) (tests : List (Token → Bool)) (i : ℕ) → get_or (answers tests t) i false ≡ get_or tests i (λ t. false) t
answer_at t [] i = refl
answer_at t (p ∷ tests) zero = refl
answer_at t (p ∷ tests) (suc i) = answer_at t tests i

-- the bit of a token's answers, as the code reads it
pub answer_is : (t : Token) (tests : List (Token → Bool)) (i : ℕ) → eqb (number (answers tests t) / 2 ^ i % 2) 1 ≡ get_or tests i (λ t. false) t
answer_is t tests i = rw (number_bit (answers tests t) i) (one_is _ ∙ answer_at t tests i)
