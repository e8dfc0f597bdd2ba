-- A text without its quotes; the constants of the 2024 edition without theirs are constants of the 2018 edition, of the same value, but for
-- the binary ones. Assumes nothing.
use Prim.Native.Nat.{ℕ, zero, suc, ◌≤◌}
use native.Mathlib.Omega.{arith}
use mathlib.Core.Path.{◌≡◌, refl, sym, ◌∙◌, subst⁻¹}
use mathlib.Core.Bool.{Bool, true, false}
use mathlib.Core.List.{[], ◌∷◌, ◌++◌, append_assoc, append-nil}
use lib.Dec.{eqb}
use lib.ListN.{length}
use borrow.Author.Tests.{eqb-false, ne_eqb}
use Rattle.reference.specs.Control.{◌or◌, when◌then◌else◌}
use Rattle.reference.specs.Text.{Text, contains}
use Rattle.reference.proofs.Cases.{by-if, neither, none-some, some_inj}
use Rattle.books.specs.Tables.{◌∈◌}
use Rattle.books.specs.Constants as old
use Rattle.books.specs.Constants2024 as new
use Rattle.books.proofs.Entries.{at_each}
use Rattle.editions.specs.Numbers.{without_quotes}

other_way : (a b : ℕ) → eqb a b ≡ false → eqb b a ≡ false
other_way a b e = ne_eqb b a (λ q. eqb-false a b e (sym q))

-- a text that holds none is kept
pub without_none : (s : Text) → contains s 39 ≡ false → without_quotes s ≡ s
unfolding without_quotes when◌then◌else◌
without_none [] h = refl
without_none (c ∷ cs) h = rw (other_way 39 c (neither h).0, without_none cs (neither h).1) refl

-- none is left
pub none_left : (s : Text) → contains (without_quotes s) 39 ≡ false
unfolding without_quotes ◌or◌
none_left [] = refl
none_left (c ∷ cs) =
    by-if (λ (t : Text). contains t 39 ≡ false) (λ e. none_left cs) (λ e. rw (other_way c 39 e) (none_left cs))

pub without_shorter : (s : Text) → length (without_quotes s) ≤ length s
unfolding without_quotes
without_shorter [] = omega arith
without_shorter (c ∷ cs) =
    by-if (λ (t : Text). length t ≤ suc (length cs)) (λ e. omega (arith, without_shorter cs)) (λ e. omega (arith, without_shorter cs))

pub without_append : (s t : Text) → without_quotes (s ++ t) ≡ without_quotes s ++ without_quotes t
unfolding without_quotes when◌then◌else◌
without_append [] t = refl
without_append (c ∷ cs) t = rw (without_append cs t) (by (eqb c 39))
  where
    by : (b : Bool)
        → (when b then without_quotes cs ++ without_quotes t else c ∷ (without_quotes cs ++ without_quotes t))
        ≡ (when b then without_quotes cs else c ∷ without_quotes cs) ++ without_quotes t
    by true = refl
    by false = refl

-- one digit more
pub without_one : (c : ℕ) → eqb c 39 ≡ false → without_quotes (c ∷ []) ≡ c ∷ []
unfolding without_quotes when◌then◌else◌
without_one c e = rw e refl

without_optional : {q : Text} → q ∈ new.quote_opt → without_quotes q ≡ []
unfolding without_quotes when◌then◌else◌
without_optional (zero, e) = rw (← (some_inj e)) refl
without_optional (suc zero, e) = rw (← (some_inj e)) refl
without_optional (suc (suc i), e) = absurd (none-some e)

pub without_more : (s q : Text) (c : ℕ) → q ∈ new.quote_opt → eqb c 39 ≡ false
    → without_quotes (s ++ q ++ (c ∷ [])) ≡ without_quotes s ++ (c ∷ [])
without_more s q c m e =
    without_append (s ++ q) (c ∷ [])
    ∙ rw (without_append s q, without_optional m, without_one c e, append-nil (without_quotes s)) refl

-- ---- constants

abbrev is_quote : ℕ × ℕ → Bool
is_quote e = eqb e.0 39

abbrev never : ℕ × ℕ → Bool
never e = false

pub older-decimal : {s : Text} {n : ℕ} → new.Decimal s n → old.Decimal (without_quotes s) n
older-decimal (new.nonzero_digit {c} h) = rw (without_one c (at_each is_quote never old.nonzero_digits refl h)) (old.nonzero_digit h)
older-decimal (new.then_digit {s} {q} {c = c} r m h) =
    rw (without_more s q c m (at_each is_quote never old.digits refl h)) (old.then_digit (older-decimal r) h)

pub older-octal : {s : Text} {n : ℕ} → new.Octal s n → old.Octal (without_quotes s) n
unfolding without_quotes when◌then◌else◌
older-octal new.zero_digit = old.zero_digit
older-octal (new.then_octal {s} {q} {c = c} r m h) =
    rw (without_more s q c m (at_each is_quote never old.octal_digits refl h)) (old.then_octal (older-octal r) h)

older-row : (p : Text) {s : Text} {n : ℕ} → new.HexadecimalDigits s n → old.Hexadecimal p (p ++ without_quotes s) n
older-row p (new.hexadecimal_digit {c} h) = rw (without_one c (at_each is_quote never old.hexadecimal_digits refl h)) (old.prefix_then h)
older-row p (new.then_hexadecimal {s} {q} {c = c} r m h) =
    rw (without_more s q c m (at_each is_quote never old.hexadecimal_digits refl h), ← append_assoc p (without_quotes s) (c ∷ []))
    (old.then_hexadecimal (older-row p r) h)

-- a prefix has none
prefix-kept : {p : Text} → p ∈ old.hexadecimal_prefixes → without_quotes p ≡ p
unfolding ◌or◌
prefix-kept {p} m = without_none p (at_each (λ x. contains x 39) (λ x. false) old.hexadecimal_prefixes refl m)

pub older-hexadecimal : {s : Text} {n : ℕ} → new.Hexadecimal s n
    → (p : Text) × (p ∈ old.hexadecimal_prefixes) × old.Hexadecimal p (without_quotes s) n
older-hexadecimal {n = n} (new.prefix_digits {p} {s} m r) =
    (p, m, subst⁻¹ (λ (t : Text). old.Hexadecimal p t n) (without_append p s ∙ rw (prefix-kept m) refl) (older-row p r))
