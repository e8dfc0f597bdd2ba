-- The texts beside a place of a line, and their edges. Assumes nothing.
use Prim.Native.Nat.{ℕ, zero, suc, ◌+◌, ◌-◌}
use native.Mathlib.Omega.{arith}
use native.Mathlib.Numerals.{add-one}
use mathlib.Core.Path.{◌≡◌, refl, sym, ap, ◌∙◌}
use mathlib.Core.Bool.{Bool, true, false, not as flip}
use mathlib.Core.List.{List, [], ◌∷◌, map}
use lib.ListN.{length, get_or, take}
use Rattle.std.proofs.lemmas.List.{get_or-reverse}
use borrow.Author.Tests.{ne_eqb}
use Rattle.reference.specs.Control.{not, ◌and◌, ◌or◌, when◌then◌else◌, let_some◌else◌then◌}
use Rattle.reference.specs.Lists.{any, get, is_empty}
use Rattle.reference.specs.Text.{Text, bytes, contains, starts_with}
use Rattle.reference.specs.Join.{text_before, text_after, text_or_empty}
use Rattle.cautions.specs.Texts.{last_byte}
use Rattle.cautions.specs.Uses.{OPERATORS, is_apart}
use Rattle.lines.specs.Words.{text_of, tokens_of}

module _ (tape area : Text) where
  at_is : (ws : List ℕ) (k : ℕ) → get_or (map (text_of tape area) ws) k [] ≡ text_or_empty (get (tokens_of tape area ws) k)
  unfolding let_some◌else◌then◌
  at_is [] k = refl
  at_is (w ∷ ws) zero = refl
  at_is (w ∷ ws) (suc k) = at_is ws k

  module _ (ws : List ℕ) (u : ℕ) where
    pub before_first : u ≡ 0 → [] ≡ text_before (tokens_of tape area ws) u
    unfolding text_before when◌then◌else◌
    before_first h = rw h refl

    pub before_other : (u ≡ 0 → ⊥) → {s : Text} → s ≡ get_or (map (text_of tape area) ws) (u - 1) [] → s ≡ text_before (tokens_of tape area ws) u
    unfolding text_before when◌then◌else◌
    before_other h e = rw (ne_eqb u 0 h) (e ∙ at_is ws (u - 1))

    pub after_is : {s : Text} → s ≡ get_or (map (text_of tape area) ws) (u + 1) [] → s ≡ text_after (tokens_of tape area ws) u
    unfolding text_after
    after_is e = e ∙ at_is ws (u + 1) ∙ ap (λ k. text_or_empty (get (tokens_of tape area ws) k)) (add-one u)

pub ruleset befores = (before_first, before_other)

-- ---- edges

pub last_none : (s : Text) → length s ≡ 0 → 0 ≡ last_byte s
last_none [] h = refl
last_none (c ∷ s) h = absurd (omega arith)

pub last_some : (s : Text) → (length s ≡ 0 → ⊥) → {x : ℕ} → x ≡ get_or s (length s - 1) 0 → x ≡ last_byte s
last_some s h e =
    let q : length s - 1 - 0 ≡ length s - 1 = omega arith in
    e ∙ sym (get_or-reverse s 0 0 (omega (arith, h)) ∙ rw q refl)

pub ruleset lasts = (last_none, last_some)

or_end : (b : Bool) → b ≡ (b or false)
unfolding ◌or◌
or_end true = refl
or_end false = refl

pub begins_none : (s : Text) → length s ≡ 0 → false ≡ any (λ c. contains (bytes "),; ") c) (take 1 s)
begins_none [] h = refl
begins_none (c ∷ s) h = absurd (omega arith)

pub begins_some : (s : Text) → (length s ≡ 0 → ⊥) → {b : Bool} → b ≡ contains (bytes "),; ") (get_or s 0 0) → b ≡ any (λ c. contains (bytes "),; ") c) (take 1 s)
begins_some [] h e = absurd (h refl)
begins_some (c ∷ s) h e = e ∙ or_end (contains (bytes "),; ") c)

pub ruleset begins = (begins_none, begins_some)

-- ---- the generator's delimiters

pub apart_none : (a b : Text) → length a ≡ 0 → false ≡ is_apart a b
unfolding is_apart ◌and◌ not
apart_none [] b h = refl
apart_none (c ∷ a) b h = absurd (omega arith)

module _ (a b : Text) (h : length a ≡ 0 → ⊥) {x : Bool} (ex : x ≡ contains OPERATORS (last_byte a)) where
  full_is : is_apart a b ≡ (not x and any (λ c. contains (bytes "),; ") c) (take 1 b) and not (starts_with b (bytes " %")))
  unfolding is_apart ◌or◌ not ◌and◌
  full_is = rw (ex, some a h) refl
    where
      some : (a : Text) → (length a ≡ 0 → ⊥) → is_empty a ≡ false
      some [] h = absurd (h refl)
      some (c ∷ a) h = refl

  pub apart_front : x ≡ true → false ≡ is_apart a b
  unfolding ◌and◌ not
  apart_front t = sym (full_is ∙ rw t refl)

  module _ (f : x ≡ false) {y : Bool} (ey : y ≡ any (λ c. contains (bytes "),; ") c) (take 1 b)) where
    pub apart_behind : y ≡ false → false ≡ is_apart a b
    unfolding ◌and◌ not
    apart_behind g = sym (full_is ∙ rw (f, ← ey, g) refl)

    pub apart_all : y ≡ true → {z : Bool} → z ≡ starts_with b (bytes " %") → flip z ≡ is_apart a b
    unfolding ◌and◌ not
    apart_all g {z} ez = go z ∙ sym (full_is ∙ rw (f, ← ey, g, ← ez) refl)
      where
        go : (b : Bool) → flip b ≡ not b
        go true = refl
        go false = refl

pub ruleset aparts = (apart_none, apart_front, apart_behind, apart_all)
