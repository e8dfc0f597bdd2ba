-- What the traits of a token are. Assumes nothing.
use Prim.Native.Nat.{◌+◌, ◌-◌, ◌≤◌, ◌<◌}
use native.Mathlib.Omega.{arith}
use mathlib.Core.Path.{◌≡◌, refl, sym, ap, ◌∙◌}
use mathlib.Core.Bool.{Bool, true, false, ◌||◌}
use mathlib.Core.List.{[], ◌∷◌}
use lib.Dec.{eqb}
use lib.ListN.{length, drop, get_or}
use lib.Seq.{get_or-drop}
use native.Mathlib.Decide.{dec_le}
use mathlib.Core.Logic.{by_cases}
use borrow.Author.Tests.{ne_eqb}
use Rattle.std.specs.List.{list_any}
use Rattle.laws.proofs.Std.{or-std, eqb_turn}
use Rattle.text.specs.Punctuation.{updates}
use Rattle.reference.specs.Control.{◌and◌, ◌or◌}
use Rattle.reference.specs.Lists.{any}
use Rattle.reference.specs.Text.{Text, bytes, contains, starts_with, ends_with}
use Rattle.reference.specs.Listing.{Token, token, is}
use Rattle.reference.specs.Shapes.{is_kw, has_brace, writes, is_operator}
use Rattle.reference.proofs.Cases.{fails}
use Rattle.laws.proofs.Scans.{ends-drop, ends-short}
use Rattle.names.proofs.Texts.{same_true}
use Rattle.lines.specs.declared.traits.Kw.{Kw}
use Rattle.lines.specs.declared.traits.Kw.TheVariants.{While, Goto, Return, Do}
use Rattle.lines.specs.Traits.{number, answers, TRAITS, traits, trait, delimits_before, delimits_after, is_sign, kw_text, kw_place}
use Rattle.lines.specs.Edges.{Word}
use Rattle.lines.proofs.traits.Rows.{number_below, number_longer}

pub traits_below : (t : Token) → traits t < 4194304
unfolding traits
traits_below t = let h : traits t < 2097152 = number_below (answers TRAITS t) in omega arith

pub kw_below : (kw : Kw) → kw_place kw < 21
kw_below While = omega arith
kw_below Goto = omega arith
kw_below Return = omega arith
kw_below Do = omega arith

pub kw_is : (kw : Kw) (t : Token) → trait (kw_place kw) t ≡ is_kw (kw_text kw) t
kw_is While t = refl
kw_is Goto t = refl
kw_is Return t = refl
kw_is Do t = refl

-- what `is_kw` leaves
pub ruleset keywords = (kw_below, kw_is)

-- ---- texts that a byte tells apart

pub no_writing : (s : Text) → 1 ≤ length s → (get_or s 0 0 ≡ 32 → ⊥) → (get_or s 0 0 ≡ 43 → ⊥) → (get_or s 0 0 ≡ 45 → ⊥)
    → false ≡ (starts_with s (bytes " = ") or any (starts_with s) updates)
unfolding ◌or◌ ◌and◌
no_writing [] h a b c = absurd (omega arith)
no_writing (x ∷ s) h a b c = rw (ne_eqb x 32 a, ne_eqb x 43 b, ne_eqb x 45 c)

pub braces : (s : Text) → list_any (λ b. eqb b 123 || eqb b 125) s ≡ (contains s 123 or contains s 125)
unfolding ◌or◌
braces [] = refl
braces (x ∷ s) = rw (or-std (eqb x 123) (eqb x 125), eqb_turn x 123, eqb_turn x 125, braces s) (step (eqb 123 x) (eqb 125 x) (contains s 123))
  where
    step : (a b c : Bool) → ((a or b) || (c or contains s 125)) ≡ ((a or c) or (b or contains s 125))
    step true b c = refl
    step false true true = refl
    step false true false = refl
    step false false c = refl

ends-other : (s t : Text) → 1 ≤ length t → (get_or s (length s - 1) 0 ≡ get_or t (length t - 1) 0 → ⊥) → ends_with s t ≡ false
ends-other s t h n =
    by_cases (dec_le (length t) (length s))
    (λ k. ends-drop s t k ∙ fails (λ e.
    let same : drop (length s - length t) s ≡ t = same_true (drop (length s - length t) s) t e in
    let at : length s - length t + (length t - 1) ≡ length s - 1 = omega arith in
    let last : get_or (drop (length s - length t) s) (length t - 1) 0 ≡ get_or s (length s - 1) 0 = rw (get_or-drop, at) in
    n (sym last ∙ ap (λ (x : Text). get_or x (length t - 1) 0) same)))
    (λ k. ends-short s t (omega (arith, k)))

-- a word has no trait but that of a slot, and that it is known
module _ (s : Text) (w : Word s) where
  ends_not : (t : Text) → 1 ≤ length t → get_or t (length t - 1) 0 < 45 → ends_with s t ≡ false
  ends_not t h l = ends-other s t h (λ e. omega (arith, w.last.high))

  no_end : ends_with s (bytes ";") ≡ false
  no_end = ends-other s (bytes ";") (omega arith) w.last.no_semicolon

pub word_row : (s : Text) → Word s → number (true ∷ false ∷ starts_with s (bytes "var_") ∷ []) ≡ traits (token 5 s)
unfolding traits delimits_before delimits_after is_sign is_kw has_brace writes is_operator is ◌and◌ ◌or◌
word_row [] w = absurd (omega (arith, w.long))
word_row (x ∷ s) w =
    let a = ne_eqb x 41 (λ e. omega (arith, w.first.high)) in
    let b = ne_eqb x 44 (λ e. omega (arith, w.first.high)) in
    let c = ne_eqb x 32 (λ e. omega (arith, w.first.high)) in
    rw (
      ends_not (x ∷ s) w (bytes "&") (omega arith) (omega arith),
      no_end (x ∷ s) w,
      ends_not (x ∷ s) w (bytes "(") (omega arith) (omega arith),
      ends_not (x ∷ s) w (bytes ", ") (omega arith) (omega arith),
      ends_not (x ∷ s) w (bytes " = ") (omega arith) (omega arith),
      ne_eqb x 58 w.first.no_colon,
      a,
      b,
      ne_eqb x 59 w.first.no_semicolon,
      c,
    ) (number_longer _ 18)
