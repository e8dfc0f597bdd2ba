-- Tokens that are not looked into, by kind; a text that holds another, or a `*`, from a place on. Assumes nothing.
use Prim.Native.Nat.{ℕ, suc, ◌+◌, ◌≤◌, ◌<◌}
use native.Mathlib.Omega.{arith}
use mathlib.Core.Path.{◌≡◌, refl, sym, ap, ◌∙◌}
use mathlib.Core.Bool.{Bool, true, false, false≢true, not as flip}
use mathlib.Core.List.{List, [], ◌∷◌}
use mathlib.Core.Option.{Option, none, some}
use lib.Dec.{eqb}
use lib.ListN.{length, drop, get_or}
use borrow.Author.Tests.{ne_eqb}
use Rattle.std.proofs.lemmas.List.{drop_more, drop_all, get_or-drop}
use Rattle.reference.specs.Control.{◌and◌, ◌or◌, when◌then◌else◌, let_some◌else◌then◌}
use Rattle.reference.specs.Lists.{any, position, is_some, is_empty}
use Rattle.reference.specs.Text.{Text, bytes, ◌≟◌, starts_with}
use Rattle.reference.specs.Listing.{token, is}
use Rattle.laws.proofs.Scans.{or_last, or_true, or_false, not_same}
use Rattle.std.specs.Bool.{◌==◌}
use Rattle.cautions.specs.Texts.{holds, star_after, is_strange, marks}
use Rattle.lines.specs.Words.{token_of, tokens_of}
use Rattle.reference.specs.Claim.{sum}
use Rattle.flow.specs.Opaque.{is_odd_byte, is_odd_text, star_at}
use Rattle.reference.proofs.Cases.{neither}

-- ---- by kind

module _ (s : Text) {k : ℕ} {x : Bool} where
  pub strange_keyword : k ≡ 3 → x ≡ starts_with s (bytes "_") → x ≡ is_strange (token k s)
  unfolding is_strange is ◌and◌ ◌or◌
  strange_keyword e f = rw e (f ∙ sym (or_last _))

  pub strange_plain : k ≡ 0 → x ≡ (s ≟ bytes " ") → flip x ≡ is_strange (token k s)
  unfolding is_strange is ◌and◌ ◌or◌
  strange_plain e f = rw e (not_same f ∙ sym (or_last _))

  pub strange_prefix : k ≡ 7 → x ≡ (s ≟ bytes " ") → flip x ≡ is_strange (token k s)
  unfolding is_strange is ◌and◌ ◌or◌
  strange_prefix e f = rw e (not_same f ∙ sym (or_last _))

  pub strange_symbol : k ≡ 4 → x ≡ (s ≟ bytes "sizeof") → x ≡ is_strange (token k s)
  unfolding is_strange is ◌and◌ ◌or◌
  strange_symbol e f = rw e (f ∙ sym (or_last _))

  pub strange_punct : k ≡ 6 → x ≡ is_odd_text s → x ≡ is_strange (token k s)
  unfolding is_strange is ◌and◌ ◌or◌ is_odd_text
  strange_punct e f = rw e f

pub strange_other : (s : Text) {k : ℕ} → (k ≡ 3 → ⊥) → (k ≡ 0 → ⊥) → (k ≡ 7 → ⊥) → (k ≡ 4 → ⊥) → (k ≡ 6 → ⊥) → false ≡ is_strange (token k s)
unfolding is_strange is ◌and◌ ◌or◌
strange_other s {k} a b c d e = rw (ne_eqb k 3 a, ne_eqb k 0 b, ne_eqb k 7 c, ne_eqb k 4 d, ne_eqb k 6 e) refl

pub ruleset strange = (strange_keyword, strange_plain, strange_prefix, strange_symbol, strange_punct, strange_other)

-- ---- a search that finds

pub found : {A : Type 0} (p : A → Bool) (xs : List A) → is_some (position p xs) ≡ any p xs
unfolding ◌or◌ when◌then◌else◌ let_some◌else◌then◌
found p [] = refl
found p (x ∷ xs) = go (p x) (position p xs) (found p xs)
  where
    go : (b : Bool) (o : Option ℕ) {r : Bool} → is_some o ≡ r → is_some (when b then some 0 else (let_some o else none then λ i. some (suc i))) ≡ (b or r)
    go true o e = refl
    go false none e = e
    go false (some i) e = e

pub found_by : {A : Type 0} (p : A → Bool) (xs : List A) {x : Bool} → x ≡ is_some (position p xs) → x ≡ any p xs
found_by p xs e = e ∙ found p xs

pub no_bytes : (p : Text) → (length p == 0) ≡ is_empty p
no_bytes [] = refl
no_bytes (x ∷ xs) = ne_eqb (suc (length xs)) 0 (λ e. omega arith)

-- ---- a text from a place on

module _ (p s : Text) (k : ℕ) (h : k < length s) where
  holds_at : holds p (drop k s) ≡ (starts_with (drop k s) p or holds p (drop (k + 1) s))
  unfolding holds
  holds_at = rw (drop_more s k 0 h) refl

  pub holds_here : {b : Bool} → b ≡ starts_with (drop k s) p → b ≡ true → holds p (drop k s) ≡ holds p s → true ≡ holds p s
  holds_here e t i = sym (or_true _ (sym e ∙ t)) ∙ sym holds_at ∙ i

  pub holds_further : {b : Bool} → b ≡ starts_with (drop k s) p → b ≡ false → holds p (drop k s) ≡ holds p s → holds p (drop (k + 1) s) ≡ holds p s
  holds_further e f i = sym (or_false _ (sym e ∙ f)) ∙ sym holds_at ∙ i

pub holds_end : (p s : Text) (k : ℕ) → length s ≤ k → holds p (drop k s) ≡ holds p s → is_empty p ≡ holds p s
unfolding holds
holds_end p s k h i = rw (drop_all k s h) at i

module _ (p : ℕ) (s : Text) (k : ℕ) (h : k < length s) where
  next_is : get_or (drop (k + 1) s) 0 0 ≡ get_or s (k + 1) 0
  next_is = get_or-drop (k + 1) s 0 0 ∙ (let e : (k + 1) + 0 ≡ k + 1 = omega arith in rw e refl)

  star_here_or : star_after p (drop k s) ≡ (star_at p (get_or s k 0) (get_or s (k + 1) 0) or star_after (get_or s k 0) (drop (k + 1) s))
  unfolding star_after star_at
  star_here_or = rw (drop_more s k 0 h, next_is) refl

  module _ {b : Bool} {n : ℕ} (en : n ≡ get_or s (k + 1) 0) (eb : b ≡ star_at p (get_or s k 0) n) {r : Bool} (i : star_after p (drop k s) ≡ r) where
    pub star_here : b ≡ true → true ≡ r
    star_here t = sym (or_true _ (rw en at (sym eb ∙ t))) ∙ sym star_here_or ∙ i

    pub star_further : b ≡ false → star_after (get_or s k 0) (drop (k + 1) s) ≡ r
    star_further f = sym (or_false _ (rw en at (sym eb ∙ f))) ∙ sym star_here_or ∙ i

pub star_end : (p : ℕ) (s : Text) (k : ℕ) {r : Bool} → length s ≤ k → star_after p (drop k s) ≡ r → false ≡ r
unfolding star_after
star_end p s k h i = rw (drop_all k s h) at i

-- ---- a text without the bytes of the operators that are not looked into

other_byte : (a c : ℕ) → is_odd_byte a ≡ true → is_odd_byte c ≡ false → eqb c a ≡ false
other_byte a c o e = ne_eqb c a (λ h. false≢true (sym e ∙ ap is_odd_byte h ∙ o))

module _ (a : ℕ) (p : Text) (o : is_odd_byte a ≡ true) where
  not_held : (s : Text) → any is_odd_byte s ≡ false → holds (a ∷ p) s ≡ false
  unfolding holds ◌or◌ ◌and◌
  not_held [] e = refl
  not_held (c ∷ s) e = let n = neither e in rw (other_byte a c o n.0, not_held s n.1)

star_odd : is_odd_byte 42 ≡ true
unfolding is_odd_byte ◌or◌
star_odd = refl

no_star : (q : ℕ) (s : Text) → any is_odd_byte s ≡ false → star_after q s ≡ false
unfolding star_after ◌or◌ ◌and◌
no_star q [] e = refl
no_star q (c ∷ s) e =
    let n = neither e in
    rw (other_byte 42 c star_odd n.0, no_star c s n.1)

pub odd_none : (s : Text) {x : Bool} → x ≡ any is_odd_byte s → x ≡ false → x ≡ is_odd_text s
unfolding is_odd_text is_odd_byte ◌or◌
odd_none s e f =
    let n : any is_odd_byte s ≡ false = sym e ∙ f in
    f ∙ sym (or_false _ (not_held 38 (38 ∷ []) refl s n) ∙ or_false _ (not_held 124 (124 ∷ []) refl s n) ∙ no_star 0 s n)

pub ruleset odd = (odd_none)

-- ---- the changes of a line

module _ (tape area : Text) (ws : List ℕ) (k : ℕ) where
  pub marks_more : {m : ℕ} (n : ℕ) {t : ℕ} → k < length ws → m ≡ marks (token_of tape area (get_or ws k 0)) → n + sum marks (tokens_of tape area (drop k ws)) ≡ t
      → (n + m) + sum marks (tokens_of tape area (drop (k + 1) ws)) ≡ t
  marks_more {m} n {t} h e i =
      let j : n + (marks (token_of tape area (get_or ws k 0)) + sum marks (tokens_of tape area (drop (k + 1) ws))) ≡ t = rw (drop_more ws k 0 h) at i in
      omega (arith, e)

  pub marks_end : (n : ℕ) {t : ℕ} → length ws ≤ k → n + sum marks (tokens_of tape area (drop k ws)) ≡ t → n ≡ t
  marks_end n {t} h i = let j : n + 0 ≡ t = rw (drop_all k ws h) at i in omega arith
