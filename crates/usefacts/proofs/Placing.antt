-- The uses of a line: what the places from one on tell, and how many Numbers there are when each use is the expression. Assumes nothing.
use Prim.Native.Nat.{ℕ, zero, suc, ◌+◌, ◌*◌, ◌≤◌, ◌<◌}
use native.Mathlib.Omega.{arith}
use native.Mathlib.Numerals.{add-one}
use mathlib.Core.Path.{◌≡◌, refl, sym, ap, ◌∙◌}
use mathlib.Core.Bool.{Bool, true, false}
use mathlib.Core.List.{List, [], ◌∷◌, ◌++◌, map}
use borrow.Author.Tests.{eqb-true}
use lib.Dec.{eqb}
use lib.ListN.{length, get_or, drop, length-map}
use lib.Seq.{drop-cons}
use Rattle.std.proofs.lemmas.Nat.{or_comm, mul-le}
use Rattle.reference.specs.Control.{◌and◌, ◌or◌, when◌then◌else◌, let_some◌else◌then◌}
use Rattle.reference.specs.Lists.{any, count}
use Rattle.reference.specs.Text.{Text}
use Rattle.reference.specs.Listing.{Token, is, Number, Register, Listing}
use Rattle.reference.specs.Names.{Fam, fam_of, of_family}
use Rattle.reference.specs.Rules.{Rules}
use Rattle.reference.specs.Join.{substitute, lone_number}
use Rattle.laws.proofs.Scans.{or_true, or_false, any_append, by_test}
use Rattle.cautions.specs.Kinds.{◌∪◌, ◌given◌, union}
use Rattle.cautions.specs.Uses.{places_of}
use Rattle.cautions.proofs.Sets.{or_assoc}
use Rattle.lines.specs.Words.{token_of, tokens_of}
use Rattle.lines.proofs.shapes.Places.{get_at}
use Rattle.usefacts.specs.declared.parts.Before.{Before}
use Rattle.usefacts.specs.Split.{is_wild, use_kinds, use_sums, before_of}
use Rattle.usefacts.specs.Uses.{is_use}

-- ---- the uses from a place on

module _ (fam : Text) (tape area : Text) (ws : List ℕ) where
  abbrev uses : ℕ → List ℕ
  uses p = places_of fam p (tokens_of tape area (drop p ws))

  abbrev here : ℕ → Bool
  here p = is_use fam (tokens_of tape area ws) p

  pub use_at : (p : ℕ) → p < length ws → {x : Bool} → x ≡ of_family fam (token_of tape area (get_or ws p 0)) → x ≡ here p
  unfolding is_use let_some◌else◌then◌
  use_at p h e = rw (get_at (token_of tape area) ws p h) e

  uses_next : (p : ℕ) → p < length ws → uses p ≡ (when here p then p ∷ uses (suc p) else uses (suc p))
  unfolding places_of is_use let_some◌else◌then◌
  uses_next p h = rw (drop-cons ws p 0 h, get_at (token_of tape area) ws p h) refl

  uses_end : (p : ℕ) → length ws ≤ p → uses p ≡ []
  unfolding places_of
  uses_end p h = by ws p p h
    where
      by : (ws : List ℕ) (p q : ℕ) → length ws ≤ p → places_of fam q (tokens_of tape area (drop p ws)) ≡ []
      by [] zero q h = refl
      by [] (suc p) q h = refl
      by (w ∷ ws) zero q h = absurd (omega arith)
      by (w ∷ ws) (suc p) q h = by ws p q (omega arith)

  -- the kinds of uses
  module _ (k : ℕ → ℕ) where
    pub kinds_more : (p acc : ℕ) {x total : ℕ} → p < length ws → x ≡ k p given here p
        → acc ∪ union (map k (uses p)) ≡ total → (acc ∪ x) ∪ union (map k (uses (p + 1))) ≡ total
    unfolding union ◌given◌ when◌then◌else◌
    kinds_more p acc h ex e = rw (add-one, ex) (by (here p) (uses (suc p)) ∙ rw (uses_next p h) at e)
      where
        by : (b : Bool) (rest : List ℕ) → (acc ∪ (k p given b)) ∪ union (map k rest) ≡ acc ∪ union (map k (when b then p ∷ rest else rest))
        by true rest = or_assoc acc (k p) (union (map k rest))
        by false rest = ap (λ (y : ℕ). y ∪ union (map k rest)) (or_comm acc 0)

    pub kinds_end : (p acc : ℕ) {total : ℕ} → length ws ≤ p → acc ∪ union (map k (uses p)) ≡ total → acc ≡ total
    unfolding union
    kinds_end p acc h e = or_comm 0 acc ∙ rw (uses_end p h) at e

  -- a test of them
  module _ (s : ℕ → Bool) where
    any_here : (p : ℕ) → p < length ws → any s (uses p) ≡ ((here p and s p) or any s (uses (suc p)))
    unfolding ◌and◌ ◌or◌ when◌then◌else◌
    any_here p h = rw (uses_next p h) (by (here p) (uses (suc p)))
      where
        by : (b : Bool) (rest : List ℕ) → any s (when b then p ∷ rest else rest) ≡ ((b and s p) or any s rest)
        by true rest = refl
        by false rest = refl

    module _ (p : ℕ) (h : p < length ws) {x total : Bool} (ex : x ≡ (here p and s p)) (e : any s (uses p) ≡ total) where
      pub any_found : x ≡ true → true ≡ total
      any_found t = sym (or_true (any s (uses (suc p))) (sym ex ∙ t)) ∙ sym (any_here p h) ∙ e

      pub any_more : x ≡ false → any s (uses (p + 1)) ≡ total
      any_more n = rw add-one (sym (or_false (any s (uses (suc p))) (sym ex ∙ n)) ∙ sym (any_here p h) ∙ e)

    pub any_end : (p : ℕ) {total : Bool} → length ws ≤ p → any s (uses p) ≡ total → false ≡ total
    any_end p h e = rw (uses_end p h) at e

module _ {b x : Bool} (ex : x ≡ b) where
  pub no_kinds : (s : ℕ) → x ≡ false → 0 ≡ s given b
  unfolding ◌given◌ when◌then◌else◌
  no_kinds s h = rw (← ex, h) refl

  pub its_kinds : {k s : ℕ} → x ≡ true → k ≡ s → k ≡ s given b
  unfolding ◌given◌ when◌then◌else◌
  its_kinds h e = rw (← ex, h) e

pub ruleset kinds_here = (no_kinds, its_kinds)

-- ---- Numbers that are not tame

module _ (ts expr : List Token) {x : Bool} (ex : x ≡ any is_wild ts) where
  pub wild_line : x ≡ true → true ≡ any is_wild (ts ++ expr)
  wild_line h = sym (any_append is_wild ts expr ∙ or_true (any is_wild expr) (sym ex ∙ h))

  pub wild_expr : x ≡ false → {y : Bool} → y ≡ any is_wild expr → y ≡ any is_wild (ts ++ expr)
  wild_expr h ey = ey ∙ sym (any_append is_wild ts expr ∙ or_false (any is_wild expr) (sym ex ∙ h))

pub ruleset wilds = (wild_line, wild_expr)

-- ---- how many Numbers

one_more : (b : Bool) {m : ℕ} (n k : ℕ) → m ≡ n + k → (when b then suc m else m) ≡ (when b then suc n else n) + k
unfolding when◌then◌else◌
one_more true n k e = omega arith
one_more false n k e = e

count_append : (p : Token → Bool) (xs ys : List Token) → count p (xs ++ ys) ≡ count p xs + count p ys
count_append p [] ys = omega arith
count_append p (x ∷ xs) ys = one_more (p x) _ _ (count_append p xs ys)

one_above : (b : Bool) {m n : ℕ} → m ≤ n → (when b then suc m else m) ≤ suc n
unfolding when◌then◌else◌
one_above true h = omega arith
one_above false h = omega arith

count-few : (p : Token → Bool) (ts : List Token) → count p ts ≤ length ts
count-few p [] = omega arith
count-few p (t ∷ ts) = one_above (p t) (count-few p ts)

counted-few : (p : Token → Bool) (tape area : Text) (ws : List ℕ) {n : ℕ} → n ≡ count p (tokens_of tape area ws) → length ws < 65536 → n ≤ 65535
counted-few p tape area ws e h = omega (arith, e, h, count-few p (tokens_of tape area ws), length-map ws (token_of tape area))

-- n of the uses, m of the Numbers of the expression, k of those of the line
module _ (p q : Token → Bool) (tape area : Text) (ws es : List ℕ) {n m : ℕ} (en : n ≡ count p (tokens_of tape area ws)) (em : m ≡ count q (tokens_of tape area es))
    (hw : length ws < 65536) (he : length es < 65536) where
  pub product-few : n * m ≤ 4294836225
  product-few = mul-le n m 65535 65535 (counted-few p tape area ws en hw) (counted-few q tape area es em he)

  pub sum-few : {k : ℕ} → k ≡ count q (tokens_of tape area ws) → k + n * m ≤ 4294901760
  sum-few ek = omega (arith, product-few, counted-few q tape area ws ek hw)

-- a use is no Number
use_other : (fam : Text) (t : Token) → of_family fam t ≡ true → is Number t ≡ false
unfolding of_family fam_of is let_some◌else◌then◌ when◌then◌else◌
use_other fam t h =
    by_test (eqb t.kind Register) (λ r. rw (eqb-true t.kind Register r) refl) (λ n. absurd (let z : false ≡ true = rw n at h in let w : ◌≡◌ {A = ℕ} 0 1 = cc in omega arith))

pub count_substituted : (fam : Text) (expr ts : List Token)
    → count (is Number) (substitute fam expr ts) ≡ count (is Number) ts + count (of_family fam) ts * count (is Number) expr
unfolding substitute when◌then◌else◌
count_substituted fam expr [] = omega arith
count_substituted fam expr (t ∷ ts) = by_test (of_family fam t) (used (count_substituted fam expr ts)) (other (count_substituted fam expr ts))
  where
    used : count (is Number) (substitute fam expr ts) ≡ count (is Number) ts + count (of_family fam) ts * count (is Number) expr → of_family fam t ≡ true
        → count (is Number) (substitute fam expr (t ∷ ts)) ≡ count (is Number) (t ∷ ts) + count (of_family fam) (t ∷ ts) * count (is Number) expr
    used e h = rw (h, use_other fam t h, count_append (is Number) expr (substitute fam expr ts), e) (omega arith)

    other : count (is Number) (substitute fam expr ts) ≡ count (is Number) ts + count (of_family fam) ts * count (is Number) expr → of_family fam t ≡ false
        → count (is Number) (substitute fam expr (t ∷ ts)) ≡ count (is Number) (t ∷ ts) + count (of_family fam) (t ∷ ts) * count (is Number) expr
    other e h = rw h (one_more (is Number t) _ _ e)

pub added : {a b c x y z : ℕ} → a ≡ x → b ≡ y → c ≡ z → a + b * c ≡ x + y * z
added ea eb ec = rw (ea, eb, ec) refl

-- ---- all of it

pub before_by : (rules : Rules) (f : Fam) (expr old : List Token) (passed : Listing) {kinds numbers : ℕ} {sums lone wild : Bool}
    → kinds ≡ union (map (λ u. use_kinds rules f expr old u passed) (places_of f.name 0 old)) → sums ≡ any (use_sums rules f expr old) (places_of f.name 0 old)
    → lone ≡ lone_number expr → wild ≡ any is_wild (old ++ expr) → numbers ≡ count (is Number) (substitute f.name expr old)
    → ◌≡◌ {A = Before} (record { kinds = kinds; sums = sums; lone = lone; wild = wild; numbers = numbers }) (before_of rules f expr old passed)
unfolding before_of
before_by rules f expr old passed ek es el ew en = rw (ek, es, el, ew, en) refl
