-- The numbers of the profile are read alike by both editions of M-100, where both read them. Assumes nothing.
use Prim.Native.Nat.{ℕ, suc, ◌≤◌, ◌^◌}
use native.Mathlib.Omega.{arith}
use mathlib.Core.Path.{◌≡◌, refl, sym, ap, ◌∙◌}
use mathlib.Core.Bool.{Bool, true, false}
use mathlib.Core.List.{[], ◌∷◌, ◌++◌}
use mathlib.Core.Option.{Option, none, some}
use lib.Dec.{eqb, leb, ltb}
use lib.IntN.{ℤ, pos}
use lib.ListN.{drop}
use borrow.Author.Tests.{leb-true, ne_eqb, eq-eqb}
use Rattle.reference.specs.Control.{not, ◌and◌, ◌or◌, when◌then◌else◌, let_some◌else◌then◌}
use Rattle.reference.specs.Lists.{count}
use Rattle.reference.specs.Text.{Text, bytes, ◌≟◌, starts_with, strip_prefix, contains}
use Rattle.reference.specs.Numbers.{to_digit, digits_value, unsigned, read_u64, read_i64, as_i64, parse_c_number, read_constant, parse_2024, read_number}
use Rattle.reference.specs.Evaluators.{is_tidy}
use Rattle.reference.proofs.Opened.{opened}
use Rattle.reference.proofs.Cases.{by-if, both, either, neither, not-true, some_inj, unless-some, bind-some}
use Rattle.reference.proofs.Shapes.{same_text}
use Rattle.laws.proofs.Scans.{if-true, or_false, and_false}
use Rattle.reference.proofs.Numerals.{no_prefix, digits_without, minus_0, minus_1, plain_1, negated}
use Rattle.books.proofs.Grammar2024.{begins}
use Rattle.straight.proofs.Shown.{no_plus-front}
use Rattle.books.proofs.Alike.{otherwise_alike, behind_0x_alike}

no_quote : (radix : ℕ) → to_digit radix 39 ≡ none → (s : Text) {n : ℕ} → digits_value radix 0 s ≡ some n → contains s 39 ≡ false
no_quote radix z s e = digits_without radix 0 39 s z e

-- ---- without a minus in front

no_quote_16 : to_digit 16 39 ≡ none
unfolding opened
no_quote_16 = refl

no_quote_10 : to_digit 10 39 ≡ none
unfolding opened
no_quote_10 = refl

unplussed : (s : Text) → starts_with s (bytes "+") ≡ false → (let_some (strip_prefix (bytes "+") s) else s then λ r. r) ≡ s
unfolding let_some◌else◌then◌
unplussed s e = rw (no_prefix (bytes "+") s e)

row : (radix : ℕ) (s : Text) {n : ℕ} → starts_with s (bytes "+") ≡ false → unsigned radix (let_some (strip_prefix (bytes "+") s) else s then λ r. r) ≡ some n
    → digits_value radix 0 s ≡ some n
unfolding unsigned
row radix s plus e = (unless-some (sym (ap (unsigned radix) (unplussed s plus)) ∙ e)).1

hex_is : (r : Text)
    → parse_c_number (bytes "0x" ++ r) ≡ (let_some (let_some (read_u64 16 r) else none then λ n. some (as_i64 n)) else none then λ n. some n)
unfolding parse_c_number strip_prefix when◌then◌else◌ ◌and◌ let_some◌else◌then◌
hex_is r = refl

hex_same : (r : Text) {z : ℤ} → contains r 43 ≡ false → parse_c_number (bytes "0x" ++ r) ≡ some z → read_constant (bytes "0x" ++ r) ≡ some z
unfolding read_u64
hex_same r plain e =
    let plus = no_plus-front r plain in
    let read = bind-some (bind-some (sym (hex_is r) ∙ e)).1 in
    let digits = bind-some read.1 in
    sym (behind_0x_alike r plus (no_quote 16 no_quote_16 r (row 16 r plus digits.1))) ∙ e

decimal_is : (s : Text) → starts_with s (bytes "-") ≡ false → starts_with s (bytes "0x") ≡ false
    → parse_c_number s ≡ (let_some (let_some (unsigned 10 (let_some (strip_prefix (bytes "+") s) else s then λ r. r)) else none then λ n. when ltb n (2 ^ 63) then some (pos n) else none) else
    none then λ n. some n)
unfolding parse_c_number read_i64 when◌then◌else◌ let_some◌else◌then◌
decimal_is s m x = rw (no_prefix (bytes "-") s m, m, no_prefix (bytes "0x") s x) (rw (no_prefix (bytes "-") s m))

decimal_same : (s : Text) {z : ℤ} → starts_with s (bytes "-") ≡ false → contains s 43 ≡ false → starts_with s (bytes "0x") ≡ false → starts_with s (bytes "0") ≡ false
    → parse_c_number s ≡ some z → read_constant s ≡ some z
decimal_same s m plain x o e =
    let plus = no_plus-front s plain in
    let digits = bind-some (bind-some (sym (decimal_is s m x) ∙ e)).1 in
    sym (otherwise_alike s m plus o (no_quote 10 no_quote_10 s (row 10 s plus digits.1))) ∙ e

zero_same : parse_c_number (bytes "0") ≡ read_constant (bytes "0")
unfolding opened
zero_same = refl

plain_same : (s : Text) {z : ℤ} → starts_with s (bytes "-") ≡ false → contains s 43 ≡ false
    → (starts_with s (bytes "0x") or not (starts_with s (bytes "0")) or (s ≟ bytes "0")) ≡ true → parse_c_number s ≡ some z → read_constant s ≡ some z
plain_same s {z} m plain h e = go (starts_with s (bytes "0x")) refl
  where
    go : (b : Bool) → starts_with s (bytes "0x") ≡ b → read_constant s ≡ some z
    go true x =
        let q = begins s (bytes "0x") x in
        let r : Text = drop 2 s in
        ap read_constant q ∙ hex_same r (neither (neither (sym (ap (λ (t : Text). contains t 43) q) ∙ plain)).1).1 (sym (ap parse_c_number q) ∙ e)
    go false x =
        either (read_constant s ≡ some z) (sym (or_false _ x) ∙ h)
        (λ o. decimal_same s m plain x (not-true o) e)
        (λ o. (let q = same_text s (bytes "0") o in ap read_constant q ∙ sym zero_same ∙ sym (ap parse_c_number q) ∙ e))

-- ---- with one, and without

once : (s : Text) → count (eqb 45) s ≤ 0 → starts_with s (bytes "-") ≡ false
unfolding when◌then◌else◌
once [] h = refl
once (c ∷ cs) h = and_false _ (ne_eqb c 45 (λ q. (let d : count (eqb 45) (c ∷ cs) ≡ suc (count (eqb 45) cs) = if-true _ _ (eq-eqb 45 c (sym q)) in omega arith)))

minus_tidy : (r : Text) → is_tidy (bytes "-" ++ r) ≡ true
    → (contains r 43 ≡ false) × (starts_with r (bytes "-") ≡ false) × ((starts_with r (bytes "0x") or not (starts_with r (bytes "0")) or (r ≟ bytes "0")) ≡ true)
minus_tidy r h =
    let b = both (sym whole ∙ h) in
    let c = both b.1 in
    let few : suc (count (eqb 45) r) ≤ 1 = leb-true (suc (count (eqb 45) r)) 1 c.0 in
    ((neither (not-true b.0)).1, once r (omega arith), c.1)
  where
    whole : is_tidy (bytes "-" ++ r)
        ≡ (not (contains (45 ∷ r) 43) and leb (suc (count (eqb 45) r)) 1 and (starts_with r (bytes "0x") or not (starts_with r (bytes "0")) or (r ≟ bytes "0")))
    whole = unfold is_tidy strip_prefix when◌then◌else◌ let_some◌else◌then◌ ◌and◌ in refl

plain_tidy : (s : Text) → starts_with s (bytes "-") ≡ false → is_tidy s ≡ true
    → (contains s 43 ≡ false) × ((starts_with s (bytes "0x") or not (starts_with s (bytes "0")) or (s ≟ bytes "0")) ≡ true)
plain_tidy s m h =
    let b = both (sym whole ∙ h) in
    (not-true b.0, (both b.1).1)
  where
    whole : is_tidy s ≡ (not (contains s 43) and leb (count (eqb 45) s) 1 and (starts_with s (bytes "0x") or not (starts_with s (bytes "0")) or (s ≟ bytes "0")))
    whole = unfold is_tidy let_some◌else◌then◌ in rw (no_prefix (bytes "-") s m)

opposite : (o : Option ℤ) {z : ℤ} → negated o ≡ some z → (y : ℤ) × (o ≡ some y)
unfolding negated
opposite o e = let b = bind-some e in (b.0, b.1)

tidy_same : (s : Text) {z : ℤ} → is_tidy s ≡ true → parse_c_number s ≡ some z → parse_2024 s ≡ some z
tidy_same s {z} h e = go (starts_with s (bytes "-")) refl
  where
    behind : (r : Text) → is_tidy (bytes "-" ++ r) ≡ true → parse_c_number (bytes "-" ++ r) ≡ some z → parse_2024 (bytes "-" ++ r) ≡ some z
    behind r t p =
        let c = minus_tidy r t in
        let y = opposite (parse_c_number r) (sym (minus_0 r c.1) ∙ p) in
        minus_1 r ∙ ap negated (plain_same r c.1 c.0 c.2 y.1 ∙ sym y.1) ∙ sym (minus_0 r c.1) ∙ p

    go : (b : Bool) → starts_with s (bytes "-") ≡ b → parse_2024 s ≡ some z
    go true m =
        let q = begins s (bytes "-") m in
        ap parse_2024 q ∙ behind (drop 1 s) (sym (ap is_tidy q) ∙ h) (sym (ap parse_c_number q) ∙ e)
    go false m = let c = plain_tidy s m h in plain_1 s m ∙ plain_same s m c.0 c.1 e

-- A NUMBER OF THE PROFILE HAS ONE VALUE, whichever edition reads it
pub either_edition : (edition : ℕ) (s : Text) {z x : ℤ} → is_tidy s ≡ true → parse_c_number s ≡ some z → read_number edition s ≡ some x → z ≡ x
unfolding read_number
either_edition edition s {z} {x} t h =
    by-if (λ (o : Option ℤ). o ≡ some x → z ≡ x) (λ e p. some_inj (sym h ∙ p)) (λ e p. some_inj (sym (tidy_same s t h) ∙ p))
