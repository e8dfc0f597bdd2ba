-- Digits, suffixes, and `numbered` of a name that begins with an r. Assumes nothing.
use Prim.Native.Nat.{ℕ, suc, ◌+◌, ◌≤◌, ◌<◌}
use native.Mathlib.Omega.{arith}
use mathlib.Core.Path.{◌≡◌, refl, sym, ap, ◌∙◌}
use mathlib.Core.Bool.{Bool, true, false, cond, false≢true}
use mathlib.Core.List.{[], ◌∷◌}
use mathlib.Core.Option.{none, some}
use lib.ListN.{length, get_or, take, drop, length-drop}
use borrow.Author.Tests.{eqb-true, ne_eqb, leb-true}
use lib.Dec.{eqb, leb}
use lib.Pointwise.{pointwise}
use lib.Seq.{drop-drop}
use Rattle.std.proofs.Common as std
use Rattle.std.specs.Char.{is_ascii_digit}
use Rattle.std.specs.List.{prefix_len}
use Rattle.reference.specs.Control.{◌and◌, ◌or◌, when◌then◌else◌, let_some◌else◌then◌}
use Rattle.reference.specs.Lists.{is_empty}
use Rattle.reference.specs.Text.{Text, bytes, strip_prefix, starts_with}
use Rattle.reference.specs.Names.{is_digit, digits_of, suffix, stack_slot, numbered}
use Rattle.laws.proofs.Scans.{if-true, if-false, same_lengths}
use Rattle.laws.proofs.Std.{and-std}
use Rattle.reference.proofs.Cases.{both}
use Rattle.names.specs.declared.families.Spelled.TheVariants.{Front}
use Rattle.names.specs.Families.{Spells}
use Rattle.names.proofs.Texts.{empty, single}
use Rattle.names.proofs.Spelling.{low_second}

-- ---- digits

pub digits-prefix : (l : Text) → length (digits_of l) ≡ prefix_len is_digit l
unfolding when◌then◌else◌
digits-prefix [] = refl
digits-prefix (c ∷ cs) = step (is_digit c) (digits-prefix cs)
  where
    step : (b : Bool) → length (digits_of cs) ≡ prefix_len is_digit cs → length (when b then c ∷ digits_of cs else []) ≡ cond b (1 + prefix_len is_digit cs) 0
    step true e = omega (arith, e)
    step false e = refl

-- `iter().take_while(|b| b.is_ascii_digit()).count()`
pub digits-std : (l : Text) → prefix_len is_ascii_digit l ≡ prefix_len is_digit l
digits-std [] = refl
digits-std (c ∷ cs) = rw (and-std (leb 48 c) (leb c 57), digits-std cs)

digits-take : (l : Text) → take (length (digits_of l)) l ≡ digits_of l
unfolding when◌then◌else◌
digits-take [] = refl
digits-take (c ∷ cs) = step (is_digit c) (digits-take cs)
  where
    step : (b : Bool) → take (length (digits_of cs)) cs ≡ digits_of cs → take (length (when b then c ∷ digits_of cs else [])) (c ∷ cs) ≡ (when b then c ∷ digits_of cs else [])
    step true e = ap (λ (l : Text). c ∷ l) e
    step false e = refl

digits-most : (l : Text) → length (digits_of l) ≤ length l
unfolding when◌then◌else◌
digits-most [] = omega arith
digits-most (c ∷ cs) = step (is_digit c) (digits-most cs)
  where
    step : (b : Bool) → length (digits_of cs) ≤ length cs → length (when b then c ∷ digits_of cs else []) ≤ length (c ∷ cs)
    step true e = omega arith
    step false e = omega arith

-- the first of them is below `a`
digit-first : (l : Text) → (length (digits_of l) ≡ 0 → ⊥) → get_or (digits_of l) 0 0 < 97
unfolding when◌then◌else◌
digit-first [] n = absurd (n refl)
digit-first (c ∷ cs) n = step (is_digit c) refl n
  where
    step : (b : Bool) → is_digit c ≡ b → (length (when b then c ∷ digits_of cs else []) ≡ 0 → ⊥) → get_or (when b then c ∷ digits_of cs else []) 0 0 < 97
    step true e n = omega (arith, leb-true c 57 (both e).1)
    step false e n = absurd (n refl)

no_digits : (d : Text) → length d ≡ 0 → is_empty d ≡ true
no_digits [] e = refl
no_digits (x ∷ d) e = absurd (omega arith)

a_digit : (d : Text) → (length d ≡ 0 → ⊥) → is_empty d ≡ false
a_digit [] n = absurd (n refl)
a_digit (x ∷ d) n = refl

-- ---- the suffix

module _ (s : Text) where
  pub no_suffix : length s ≡ 0 → some 64 ≡ suffix s
  unfolding suffix when◌then◌else◌
  no_suffix e = rw (empty s e)

  pub long_suffix : 2 ≤ length s → none ≡ suffix s
  unfolding suffix when◌then◌else◌ ◌or◌
  long_suffix n =
      rw (
        same_lengths s [] (λ e. omega arith),
        same_lengths s (bytes "d") (λ e. omega arith),
        same_lengths s (bytes "w") (λ e. omega arith),
        same_lengths s (bytes "b") (λ e. omega arith),
        same_lengths s (bytes "l") (λ e. omega arith),
      )

  pub one_suffix : length s ≡ 1 → (b : ℕ) → get_or s 0 0 ≡ b → suffix (b ∷ []) ≡ suffix s
  one_suffix h b e = ap suffix (sym (single s h ∙ ap (λ (x : ℕ). x ∷ []) e))

pub other-suffix : (b : ℕ) → (b ≡ 100 → ⊥) → (b ≡ 119 → ⊥) → (b ≡ 98 → ⊥) → (b ≡ 108 → ⊥) → none ≡ suffix (b ∷ [])
unfolding suffix when◌then◌else◌ ◌or◌ ◌and◌
other-suffix b d w l m = rw (ne_eqb b 100 d, ne_eqb b 119 w, ne_eqb b 98 l, ne_eqb b 108 m)

-- ---- a name with no r in front

pub other-numbered : (s : Text) → starts_with s (bytes "r") ≡ false → numbered s ≡ stack_slot s
unfolding numbered strip_prefix when◌then◌else◌ let_some◌else◌then◌
other-numbered s e = rw e

-- ---- a name with an r in front, and n where its digits end

pub front-std : (s : Text) → pointwise eqb (take 1 s) (bytes "r") ≡ starts_with s (bytes "r")
front-std [] = refl
front-std (x ∷ s) = and-std (eqb x 114) true

-- what `strip_prefix(b"r")` tells of s and of the rest
abbrev pub Stripped : Text → Text → Type 0
Stripped s rest = (pointwise eqb (take 1 s) (bytes "r") ≡ true) × (rest ≡ drop 1 s) × (length rest + 1 ≡ length s)

module _ (s : Text) {rest : Text} (h : Stripped s rest) {m : ℕ} (em : m ≡ prefix_len is_digit rest) where
  abbrev n : ℕ
  n = 1 + m

  r : starts_with s (bytes "r") ≡ true
  r = sym (front-std s) ∙ h.0

  en : n ≡ 1 + length (digits_of (drop 1 s))
  en = omega (arith, em ∙ ap (prefix_len is_digit) h.1, digits-prefix (drop 1 s))

  behind : drop m rest ≡ drop n s
  behind = ap (drop m) h.1 ∙ drop-drop m 1 s

  opened : numbered s ≡ (when is_empty (digits_of (drop 1 s)) then stack_slot s else let_some (suffix (drop n s)) else none then λ w. some (record { name = take n s; width = w; lowest = 0 }))
  unfolding numbered strip_prefix let_some◌else◌then◌ when◌then◌else◌
  opened = split s r en
    where
      split : (s : Text) → starts_with s (bytes "r") ≡ true → n ≡ 1 + length (digits_of (drop 1 s))
          → numbered s ≡ (when is_empty (digits_of (drop 1 s)) then stack_slot s else let_some (suffix (drop n s)) else none then λ w. some (record { name = take n s; width = w; lowest = 0 }))
      split [] r en = absurd (false≢true r)
      split (x ∷ s) r en =
          let t : n ≡ suc (length (digits_of s)) = omega arith in
          let e : x ≡ 114 = eqb-true x 114 (both r).0 in
          rw (r, t, e, digits-take s)

  pub most : m ≤ length rest
  most = omega (arith, en, h.2, digits-most (drop 1 s), length-drop 1 s)

  pub bare : m ≡ 0 → numbered s ≡ stack_slot s
  bare e = opened ∙ if-true _ _ (no_digits (digits_of (drop 1 s)) (omega (arith, en)))

  module _ (digits : m ≡ 0 → ⊥) where
    go : numbered s ≡ (let_some (suffix (drop n s)) else none then λ w. some (record { name = take n s; width = w; lowest = 0 }))
    go = opened ∙ if-false _ _ (a_digit (digits_of (drop 1 s)) (λ e. digits (omega (arith, en))))

    second : get_or (take n s) 1 0 < 97
    second = split s r en (λ e. digits (omega arith))
      where
        split : (s : Text) → starts_with s (bytes "r") ≡ true → n ≡ 1 + length (digits_of (drop 1 s)) → (n ≡ 1 → ⊥) → get_or (take n s) 1 0 < 97
        split [] r en f = absurd (false≢true r)
        split (x ∷ s) r en f =
            let t : n ≡ suc (length (digits_of s)) = omega arith in
            rw (t, digits-take s) (digit-first s (λ e. f (omega arith)))

    pub unnumbered : none ≡ suffix (drop m rest) → Spells s (numbered s) std.None
    unfolding let_some◌else◌then◌
    unnumbered e = record { is = sym (go ∙ rw (sym (e ∙ ap suffix behind))); sound = tt }

    pub with_number : {w : ℕ} → some w ≡ suffix (drop m rest) → Spells s (numbered s) (std.Some (Front n w))
    unfolding let_some◌else◌then◌
    with_number e = record { is = sym (go ∙ rw (sym (e ∙ ap suffix behind))); sound = (omega (arith, most, h.2), low_second (take n s) second) }
