-- Numbers below 2^64 written in hexadecimal, as binary constants go down: a constant of the 2018 edition, without a quote, and no longer
-- than the binary one. Assumes nothing.
use Prim.Native.Nat.{ℕ, zero, suc, ◌+◌, ◌*◌, ◌/◌, ◌%◌, ◌^◌, ◌<◌, ◌≤◌}
use native.Mathlib.Omega.{arith}
use native.Mathlib.Nat.{pow-suc, div-lt_iff_lt-mul}
use mathlib.Core.Path.{◌≡◌, refl}
use mathlib.Core.Bool.{true, false}
use mathlib.Core.List.{[], ◌∷◌, ◌++◌}
use mathlib.Core.Option.{some}
use lib.Dec.{ltb}
use lib.ListN.{length, length-append}
use borrow.Author.Tests.{ltb-true, ltb-false}
use Rattle.reference.specs.Control.{◌or◌, let_some◌else◌then◌, when◌then◌else◌}
use Rattle.reference.specs.Text.{Text, bytes, contains}
use Rattle.reference.specs.Numbers.{base_of, prefix_size, constant_digits, constant_value, digit_byte, digits}
use Rattle.reference.proofs.Cases.{by-if}
use Rattle.reference.proofs.Numerals.{unquoted-row, digits_without}
use Rattle.reference.proofs.Printed.{hexadecimal, comes_to, some_digit, no_quote}
use Rattle.books.specs.Tables.{◌∈◌}
use Rattle.books.specs.Constants as old
use Rattle.books.specs.Constants2024 as new
use Rattle.books.proofs.Entries.{at_each}
use Rattle.books.proofs.Rows.{other_than-quote, grown}
use Rattle.books.proofs.Grammar2024.{base-binary, binary-spells, in_hexadecimal_digits}
use Rattle.editions.specs.Numbers.{without_quotes}
use Rattle.editions.proofs.Quotes.{without_none, without_one, without_more}

-- ---- a constant of the 2018 edition

module _ (n : ℕ) (h : n < 2 ^ 64) where
  pub no_quote_in : contains (hexadecimal n) 39 ≡ false
  no_quote_in = digits_without 16 0 39 (hexadecimal n) no_quote (comes_to n h)

  pub hexadecimal_2018 : old.Hexadecimal (bytes "0x") (bytes "0x" ++ hexadecimal n) n
  hexadecimal_2018 =
      let g : old.Hexadecimal (bytes "0x") (bytes "0x" ++ without_quotes (hexadecimal n)) n =
      grown 16 (λ t m. old.Hexadecimal (bytes "0x") (bytes "0x" ++ without_quotes t) m)
      (λ s q m c d g k e. rw (without_more s q c k (other_than-quote 16 c no_quote e)) (old.then_hexadecimal g (in_hexadecimal_digits e)))
      (hexadecimal n)
      (λ c d rest w e. rw (without_one c (other_than-quote 16 c no_quote e)) (old.prefix_then (in_hexadecimal_digits e)))
      (unquoted-row (hexadecimal n) (some_digit n h) no_quote_in)
      (comes_to n h) in
      rw (without_none (hexadecimal n) no_quote_in) at g

-- ---- how long

digits-length : (fuel k n : ℕ) (rest : Text) → n < 16 ^ suc k → length (digits fuel 16 n rest) ≤ suc k + length rest
unfolding digits
digits-length zero k n rest h = omega arith
digits-length (suc fuel) zero n rest h =
    by-if (λ (t : Text). length t ≤ 1 + length rest) (λ e. omega arith) (λ e. absurd (omega (arith, ltb-false n 16 e, h)))
digits-length (suc fuel) (suc k) n rest h =
    by-if (λ (t : Text). length t ≤ suc (suc k) + length rest) (λ e. omega arith)
    (λ e. omega (arith, digits-length fuel k (n / 16) (digit_byte (n % 16) ∷ rest) ((div-lt_iff_lt-mul (omega arith)).1 (rw pow-suc at h))))

-- a binary constant, behind its prefix
pub record Front (s : Text) (n : ℕ) : Type 0 where
  pub more : ℕ
  pub long : 3 + more ≤ length s
  pub small : n < 16 ^ suc more

two_long : {p : Text} → p ∈ new.binary_prefixes → length p ≡ 2
two_long m = at_each length (λ p. 2) new.binary_prefixes refl m

bit : {c d : ℕ} → (c, d) ∈ new.binary_digits → d < 2
bit {d = d} m = ltb-true d 2 (at_each (λ e. ltb e.1 2) (λ e. true) new.binary_digits refl m)

pub front : {s : Text} {n : ℕ} → new.Binary s n → Front s n
front (new.prefix_digit {p} {c} m h) =
    record { more = 0; long = omega (arith, length-append p (c ∷ []), two_long m); small = omega (arith, bit h) }
front (new.then_binary {s} {q} {n} {c} {d} r m h) = one_more (front r)
  where
    one_more : Front s n → Front (s ++ q ++ (c ∷ [])) (n * 2 + d)
    one_more f =
        record {
          more = suc f.more;
          long = omega (arith, f.long, length-append (s ++ q) (c ∷ []), length-append s q);
          small = rw (pow-suc 16 (suc f.more)) (omega (arith, f.small, bit h));
        }

-- THE HEXADECIMAL IS NO LONGER THAN THE BINARY
pub shorter : {s : Text} {n : ℕ} → new.Binary s n → length (bytes "0x" ++ hexadecimal n) ≤ length s
unfolding hexadecimal
shorter {n = n} r = let f = front r in omega (arith, digits-length 16 f.more n [] f.small, f.long)

-- ---- what a binary constant is

pub binary-base : {s : Text} {n : ℕ} → new.Binary s n → base_of s ≡ 2
binary-base r = let q = binary-spells r in rw q.whole (base-binary q.prefix q.rest q.known).0

pub binary_value : {s : Text} {n : ℕ} → new.Binary s n → constant_value s ≡ some n
unfolding constant_value constant_digits prefix_size let_some◌else◌then◌ when◌then◌else◌ ◌or◌
binary_value r =
    let q = binary-spells r in
    let b = base-binary q.prefix q.rest q.known in
    rw (q.whole, b.0, b.1, q.spells.without_quotes, q.spells.comes_to) refl
