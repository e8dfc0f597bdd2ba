-- The bits of one token. Assumes nothing.
use Prim.Native.Nat.{ℕ, ◌-◌, ◌*◌, ◌/◌, ◌%◌, ◌^◌, ◌<◌}
use native.Mathlib.Omega.{arith}
use native.Mathlib.Decide.{ℕ_discrete}
use mathlib.Core.Logic.{by_cases}
use mathlib.Core.Path.{◌≡◌, refl, sym, ap, ◌∙◌}
use mathlib.Core.Bool.{Bool, true, false}
use mathlib.Core.Option.{none}
use lib.Pow.{pow-lt}
use borrow.Author.Tests.{eq-eqb, ne_eqb}
use Rattle.reference.specs.Control.{◌and◌, ◌or◌, when◌then◌else◌, let_some◌else◌then◌}
use Rattle.reference.specs.Text.{Text, bytes, strip_prefix, ◌≟◌}
use Rattle.reference.specs.Listing.{Token, is, Symbol}
use Rattle.reference.specs.Names.{legacy, stack_slot, numbered, high_byte, family, fam_of}
use Rattle.reference.specs.Shapes.{has_brace}
use Rattle.reference.proofs.Cases.{fails, none-some}
use Rattle.names.proofs.Texts.{same_true}
use Rattle.lines.specs.Codes.{Says}
use Rattle.lines.specs.Traits.{has_text}
use Rattle.lines.specs.Words.{kind_of, text_of, token_of, Points}
use Rattle.lines.specs.Facts.{bit, of_number, is_control, concerns}
use Rattle.lines.proofs.shapes.Tests.{is_it, is_not}
use Rattle.lines.proofs.codes.Coding.{number_below}
use Rattle.linefacts.specs.Gathering.{seen_by, Bits}
use Rattle.linefacts.proofs.Bits.{power_bit, set_below, all_set, one_shifted}

-- ---- what a bit is about

pub control_fact : (t : Token) (i : ℕ) → i ≡ 15 → concerns i t ≡ is_control t
unfolding concerns when◌then◌else◌
control_fact t i e = rw (eq-eqb i 15 e)

pub number_fact : (t : Token) (i : ℕ) → (i ≡ 15 → ⊥) → concerns i t ≡ of_number i t
unfolding concerns when◌then◌else◌
number_fact t i n = rw (ne_eqb i 15 n)

pub symbol_seen : (t : Token) (i : ℕ) → i ≡ 16 → seen_by i t ≡ is Symbol t
unfolding seen_by when◌then◌else◌
symbol_seen t i e = rw (eq-eqb i 16 e)

pub fact_seen : (t : Token) (i : ℕ) → (i ≡ 16 → ⊥) → seen_by i t ≡ concerns i t
unfolding seen_by when◌then◌else◌
fact_seen t i n = rw (ne_eqb i 16 n)

by_bit : (t : Token) (i : ℕ) → (i ≡ 16 → is Symbol t ≡ false) → (i ≡ 15 → is_control t ≡ false) → of_number i t ≡ false → seen_by i t ≡ false
by_bit t i f g h = by_cases (ℕ_discrete i 16)
    (λ e. symbol_seen t i e ∙ f e)
    (λ n. fact_seen t i n ∙ by_cases (ℕ_discrete i 15) (λ e. control_fact t i e ∙ g e) (λ m. number_fact t i m ∙ h))

-- ---- `is_control`, by the code's tests: x is the kind that was read, y whether the token has a brace

module _ (t : Token) {x : ℕ} (e : x ≡ t.kind) where
  pub control_keyword : x ≡ 3 → true ≡ is_control t
  unfolding is_control ◌or◌
  control_keyword h = rw (← is_it t 3 e h)

  module _ (n : x ≡ 3 → ⊥) {y : Bool} (ey : y ≡ has_brace t) where
    pub control_brace : y ≡ true → true ≡ is_control t
    unfolding is_control ◌or◌
    control_brace h = rw (← is_not t 3 e n, ← ey, h)

    pub control_colon : {z : Bool} → y ≡ false → z ≡ has_text (bytes ":") t → z ≡ is_control t
    unfolding is_control ◌or◌
    control_colon f ez = ez ∙ rw (← is_not t 3 e n, ← ey, f)

-- ---- a token that is no Register: x is the kind that was read, y whether it is of control flow

module _ (t : Token) {x : ℕ} (e : x ≡ t.kind) (n : x ≡ 1 → ⊥) {y : Bool} (ey : y ≡ is_control t) where
  other_number : (i : ℕ) → of_number i t ≡ false
  unfolding of_number fam_of when◌then◌else◌ let_some◌else◌then◌
  other_number i = rw (← is_not t 1 e n)

  pub control_bits : y ≡ true → Bits 98304 (λ i. seen_by i t)
  unfolding bit
  control_bits h = record {
    small = omega arith;
    fails = λ i b z. by_bit t i
        (λ q. absurd (let w : bit 98304 16 ≡ 0 = rw q at z in omega arith))
        (λ q. absurd (let w : bit 98304 15 ≡ 0 = rw q at z in omega arith))
        (other_number i);
  }

  pub symbol_bits : y ≡ false → Bits 65536 (λ i. seen_by i t)
  unfolding bit
  symbol_bits h = record {
    small = omega arith;
    fails = λ i b z. by_bit t i (λ q. absurd (let w : bit 65536 16 ≡ 0 = rw q at z in omega arith)) (λ q. sym ey ∙ h) (other_number i);
  }

  pub no_bits : y ≡ false → (x ≡ 4 → ⊥) → Bits 0 (λ i. seen_by i t)
  no_bits h m = record { small = omega arith; fails = λ i b z. by_bit t i (λ q. sym (is_not t 4 e m)) (λ q. sym ey ∙ h) (other_number i) }

-- ---- a Register

-- a `:` has no family
colon_none : family (bytes ":") ≡ none
unfolding family legacy high_byte numbered stack_slot strip_prefix when◌then◌else◌ let_some◌else◌then◌ ◌and◌ ◌or◌
colon_none = refl

module _ {tape area : Text} {w : ℕ} (p : Points tape area w) (k : kind_of w ≡ 1) where
  abbrev t : Token
  t = token_of tape area w

  no_symbol : is Symbol t ≡ false
  no_symbol = sym (is_not t 4 refl (λ z. omega arith))

  pub all_bits : Bits 65535 (λ i. seen_by i t)
  all_bits = record {
    small = omega arith;
    fails = λ i b z. by_cases (ℕ_discrete i 16) (λ e. symbol_seen t i e ∙ no_symbol) (λ n. absurd (omega (arith, set_below 65535 16 i all_set (omega arith))));
  }

  module _ {c : ℕ} (s : Says c (text_of tape area w)) where
    number_small : c / 4 - 1 < 15
    number_small = rw s.number_is (number_below _)

    pub shift_fits : c / 4 - 1 < 64
    shift_fits = omega (arith, number_small)

    no_colon : (text_of tape area w ≟ bytes ":") ≡ false
    no_colon = fails (λ e. none-some (sym colon_none ∙ ap family (sym (same_true (text_of tape area w) (bytes ":") e)) ∙ s.family_is))

    named-save-calls : is_control t ≡ false
    unfolding is_control has_brace ◌or◌ ◌and◌
    named-save-calls = rw (← is_not t 3 refl (λ z. omega arith), ← is_not t 6 refl (λ z. omega arith), no_colon)

    pub one_family : {x : ℕ} → x ≡ (1 * 2 ^ (c / 4 - 1)) % 2 ^ 64 → Bits x (λ i. seen_by i t)
    unfolding of_number fam_of when◌then◌else◌ let_some◌else◌then◌
    one_family ex = rw (ex ∙ one_shifted (c / 4 - 1) number_small) (record {
      small = let h : 2 ^ (c / 4 - 1) < 2 ^ 15 = pow-lt number_small in omega arith;
      fails = λ i b z. by_bit t i (λ q. no_symbol) (λ q. named-save-calls)
          (rw (← is_it t 1 refl k, s.family_is, ← s.number_is) (ne_eqb (c / 4 - 1) i (λ q. omega (arith, power_bit i, rw q at z))));
    })
