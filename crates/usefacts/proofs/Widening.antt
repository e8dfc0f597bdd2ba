-- Widths of tokens, by kind; whether one of a run passes a test, and the first; the one that all have. Assumes nothing.
use Prim.Native.Nat.{ℕ, ◌+◌, ◌≤◌, ◌<◌}
use native.Mathlib.Omega.{arith}
use mathlib.Core.Path.{◌≡◌, refl, sym, subst, ◌∙◌}
use mathlib.Core.Bool.{Bool, true, false, not as flip}
use mathlib.Core.List.{List, [], ◌∷◌, map}
use mathlib.Core.Option.{Option, none, some}
use lib.Dec.{eqb}
use lib.ListN.{length, drop, take, get_or, length-map}
use borrow.Author.Tests.{ne_eqb, eq-eqb}
use Rattle.std.proofs.lemmas.List.{drop_more, drop_all}
use Rattle.std.specs.Prelude as std
use Rattle.std.specs.Prelude.{Some, None}
use Rattle.reference.specs.Options.{option_of}
use Rattle.reference.specs.Control.{not, ◌and◌, ◌or◌, when◌then◌else◌, let_some◌else◌then◌}
use Rattle.reference.specs.Lists.{any, get}
use Rattle.reference.specs.Text.{Text, bytes, has, ◌≟◌, ends_with}
use Rattle.reference.specs.Listing.{Token, is, Number, Keyword, Symbol, Address, Punct}
use Rattle.reference.specs.Names.{Fam, fam_of}
use Rattle.reference.specs.Shapes.{call_in}
use Rattle.reference.specs.Join.{text_or_empty}
use Rattle.reference.proofs.Cases.{some_inj}
use Rattle.laws.proofs.Scans.{or_true, or_false, any_append}
use Rattle.cautions.specs.Forms.{CASES, CONTROL, WORDS}
use Rattle.cautions.specs.Texts.{loose}
use Rattle.cautions.specs.Values.{is_cell, has_no_width, full, name_width, cast_width, token_width, widths_in, common, is_cast, natural, is_plain, lone_call}
use Rattle.lines.specs.Words.{kind_of, text_of, token_of, tokens_of}
use Rattle.lines.specs.Fams.{Names}
use Rattle.lines.specs.declared.fams.Named.{Named}
use Rattle.lines.proofs.fams.Families.{named_as, named-not}
use Rattle.usefacts.specs.Widths.{is_unsized, is_addressed, own_width, passes}

-- ---- words of control

module _ (s : Text) {x : Bool} (ex : x ≡ has CASES s) where
  pub case_word : x ≡ true → true ≡ has WORDS s
  case_word h = sym (any_append (◌≟ s) CASES CONTROL ∙ or_true (has CONTROL s) (sym ex ∙ h))

  pub control_word : x ≡ false → {y : Bool} → y ≡ has CONTROL s → y ≡ has WORDS s
  control_word h ey = ey ∙ sym (any_append (◌≟ s) CASES CONTROL ∙ or_false (has CONTROL s) (sym ex ∙ h))

pub ruleset worded = (case_word, control_word)

-- ---- by kind: k is the token's kind, s its text

module _ (tape area : Text) (w : ℕ) {k : ℕ} (ek : k ≡ kind_of w) where
  pub unsized_number : k ≡ Number → true ≡ is_unsized (token_of tape area w)
  unfolding is_unsized is ◌or◌
  unsized_number h = rw (← ek, h) refl

  pub unsized_punct : k ≡ Punct → true ≡ is_unsized (token_of tape area w)
  unfolding is_unsized is ◌or◌
  unsized_punct h = rw (← ek, h) refl

  pub unsized_keyword : {s : Text} {x : Bool} → k ≡ Keyword → s ≡ text_of tape area w → x ≡ (has WORDS s or (s ≟ bytes "(unsigned)")) → x ≡ is_unsized (token_of tape area w)
  unfolding is_unsized has_no_width is ◌or◌ ◌and◌
  unsized_keyword h es ex = rw (← ek, h, ← es) ex

  pub unsized_not : (k ≡ Number → ⊥) → (k ≡ Punct → ⊥) → (k ≡ Keyword → ⊥) → false ≡ is_unsized (token_of tape area w)
  unfolding is_unsized has_no_width is ◌or◌ ◌and◌
  unsized_not a b c = rw (← ek, ne_eqb k Number a, ne_eqb k Punct b, ne_eqb k Keyword c) refl

  pub addressed_kind : (before : Text) → k ≡ Address → true ≡ is_addressed before (token_of tape area w)
  unfolding is_addressed is ◌or◌
  addressed_kind before h = rw (← ek, h) refl

  module _ (before : Text) (h : k ≡ Address → ⊥) {x : Bool} (ex : x ≡ is_cell (token_of tape area w)) where
    pub addressed_cell : x ≡ true → true ≡ is_addressed before (token_of tape area w)
    unfolding is_addressed is ◌or◌
    addressed_cell t = rw (← ex, t, ← ek, ne_eqb k Address h) refl

    pub addressed_behind : x ≡ false → {y : Bool} → y ≡ ends_with before (bytes "&") → y ≡ is_addressed before (token_of tape area w)
    unfolding is_addressed is ◌or◌
    addressed_behind t e = rw (← ex, t, ← ek, ne_eqb k Address h) e

  module _ (c : ℕ) {s : Text} (es : s ≡ text_of tape area w) {x : ℕ} where
    pub own_symbol : k ≡ Symbol → x ≡ name_width c s → x ≡ own_width c (token_of tape area w)
    unfolding own_width is when◌then◌else◌
    own_symbol h e = rw (← ek, h, ← es) e

    pub own_keyword : k ≡ Keyword → x ≡ cast_width s → x ≡ own_width c (token_of tape area w)
    unfolding own_width is when◌then◌else◌
    own_keyword h e = rw (← ek, h, ← es) e

  module _ (c : ℕ) (a : k ≡ Symbol → ⊥) (b : k ≡ Keyword → ⊥) {r : std.Option Named} (h : Names tape area (fam_of (token_of tape area w)) r) where
    pub own_none : r ≡ None → 0 ≡ own_width c (token_of tape area w)
    unfolding own_width is when◌then◌else◌ let_some◌else◌then◌
    own_none e = rw (named-not h e, ← ek, ne_eqb k Symbol a, ne_eqb k Keyword b) refl

    pub own_named : {n : Named} → r ≡ Some n → n.width ≡ own_width c (token_of tape area w)
    unfolding own_width is when◌then◌else◌ let_some◌else◌then◌
    own_named e = rw (named_as h e, ← ek, ne_eqb k Symbol a, ne_eqb k Keyword b) refl

pub ruleset without_width = (unsized_number, unsized_punct, unsized_keyword, unsized_not)

pub ruleset addressed = (addressed_kind, addressed_cell, addressed_behind)

pub ruleset owned = (own_symbol, own_keyword, own_none, own_named)

-- ---- one token

or_when : {A : Type 0} (a b c : Bool) (x y : A) → (when a or b or c then x else y) ≡ (when (a or (b or c)) then x else y)
or_when a b c x y = refl

module _ (c : ℕ) (before : Text) (t : Token) {x : Bool} (ex : x ≡ is_unsized t) where
  pub width_none : x ≡ true → none ≡ token_width c before t
  unfolding token_width is_unsized when◌then◌else◌
  width_none h = rw (sym ex ∙ h) refl

  module _ (n : x ≡ false) {y : Bool} (ey : y ≡ is_addressed before t) where
    pub width_full : y ≡ true → {m : ℕ} → m ≡ full c → some m ≡ token_width c before t
    unfolding token_width is_unsized is_addressed when◌then◌else◌
    width_full h e = rw (sym ex ∙ n, sym ey ∙ h, e) refl

    pub width_own : y ≡ false → {m : ℕ} → m ≡ own_width c t → some m ≡ token_width c before t
    unfolding token_width is_unsized is_addressed own_width when◌then◌else◌ let_some◌else◌then◌
    width_own h e = rw (sym ex ∙ n, sym ey ∙ h, e) (go (is Symbol t) (is Keyword t) (fam_of t))
      where
        go : (a b : Bool) (o : Option Fam) → some (when a then name_width c t.text else when b then cast_width t.text else let_some o else 0 then λ (f : Fam). f.width)
            ≡ (when a then some (name_width c t.text) else when b then some (cast_width t.text) else let_some o else some 0 then λ (f : Fam). some f.width)
        go true b o = refl
        go false true o = refl
        go false false none = refl
        go false false (some f) = refl

pub ruleset token_widths = (width_none, width_full, width_own)

module _ (p : ℕ → Bool) (c : ℕ) (before : Text) (t : Token) {r : std.Option ℕ} (e : option_of r ≡ token_width c before t) where
  pub passes_none : r ≡ None → false ≡ passes p c before t
  unfolding passes let_some◌else◌then◌
  passes_none h = rw (← e, h) refl

  pub passes_some : {v : ℕ} → r ≡ Some v → p v ≡ passes p c before t
  unfolding passes let_some◌else◌then◌
  passes_some h = rw (← e, h) refl

pub not_eqb : (a b : ℕ) → flip (eqb a b) ≡ not (eqb a b)
unfolding not
not_eqb a b = go (eqb a b)
  where
    go : (x : Bool) → flip x ≡ not x
    go true = refl
    go false = refl

pub ruleset passing = (passes_none, passes_some, not_eqb)

-- ---- a run: the answer from the place k on

module _ (p : ℕ → Bool) (c : ℕ) where
  any_more : (before : Text) (t : Token) (ts : List Token) → any p (widths_in c before (t ∷ ts)) ≡ (passes p c before t or any p (widths_in c t.text ts))
  unfolding widths_in passes let_some◌else◌then◌ ◌or◌
  any_more before t ts = go (token_width c before t)
    where
      go : (o : Option ℕ) → any p (let_some o else widths_in c t.text ts then λ w. w ∷ widths_in c t.text ts) ≡ ((let_some o else false then p) or any p (widths_in c t.text ts))
      go none = refl
      go (some v) = refl

  module _ (tape area : Text) (before : Text) (ws : List ℕ) (k : ℕ) where
    module _ (h : k < length ws) {b : Bool} (eb : b ≡ passes p c before (token_of tape area (get_or ws k 0))) {r : Bool}
        (i : any p (widths_in c before (tokens_of tape area (drop k ws))) ≡ r) where
      step : (b or any p (widths_in c (text_of tape area (get_or ws k 0)) (tokens_of tape area (drop (k + 1) ws)))) ≡ r
      step = rw eb (sym (any_more before (token_of tape area (get_or ws k 0)) (tokens_of tape area (drop (k + 1) ws))) ∙ rw (drop_more ws k 0 h) at i)

      pub passed_here : b ≡ true → true ≡ r
      passed_here t = sym (or_true _ t) ∙ step

      pub passed_further : b ≡ false → {s : Text} → s ≡ text_of tape area (get_or ws k 0) → any p (widths_in c s (tokens_of tape area (drop (k + 1) ws))) ≡ r
      passed_further f es = rw es (sym (or_false _ f) ∙ step)

    pub passed_end : length ws ≤ k → {r : Bool} → any p (widths_in c before (tokens_of tape area (drop k ws))) ≡ r → false ≡ r
    unfolding widths_in
    passed_end h i = rw (drop_all k ws h) at i

module _ (c : ℕ) (tape area : Text) (before : Text) (ws : List ℕ) (k : ℕ) where
  module _ (h : k < length ws) (o : std.Option ℕ) (eo : option_of o ≡ token_width c before (token_of tape area (get_or ws k 0))) {r : Option ℕ}
      (i : get (widths_in c before (tokens_of tape area (drop k ws))) 0 ≡ r) where
    abbrev more : List ℕ
    more = widths_in c (text_of tape area (get_or ws k 0)) (tokens_of tape area (drop (k + 1) ws))

    step_first : get (let_some option_of o else more then λ w. w ∷ more) 0 ≡ r
    unfolding widths_in
    step_first = rw eo (rw (drop_more ws k 0 h) at i)

    pub first_here : {v : ℕ} → o ≡ Some v → some v ≡ r
    unfolding let_some◌else◌then◌
    first_here e = rw e at step_first

    pub first_further : o ≡ None → {s : Text} → s ≡ text_of tape area (get_or ws k 0) → get (widths_in c s (tokens_of tape area (drop (k + 1) ws))) 0 ≡ r
    unfolding let_some◌else◌then◌
    first_further e es = rw es (rw e at step_first)

  pub first_end : length ws ≤ k → {r : Option ℕ} → get (widths_in c before (tokens_of tape area (drop k ws))) 0 ≡ r → none ≡ r
  unfolding widths_in
  first_end h i = rw (drop_all k ws h) at i

-- ---- the one width

module _ (l : List ℕ) {r : std.Option ℕ} (e : option_of r ≡ get l 0) where
  pub common_none : r ≡ None → 0 ≡ common l
  unfolding common
  common_none h = by l (rw (← e, h) refl)
    where
      by : (l : List ℕ) → none ≡ get l 0 → 0 ≡ common l
      by [] i = refl
      by (v ∷ vs) i = cc

  module _ {v : ℕ} (h : r ≡ Some v) {b : Bool} (eb : b ≡ any (λ x. not (eqb x v)) l) where
    common_as : common l ≡ (when b then 0 else v)
    unfolding common not ◌or◌ when◌then◌else◌
    common_as = by l (rw (← e, h) refl) eb
      where
        by : (l : List ℕ) → some v ≡ get l 0 → b ≡ any (λ x. not (eqb x v)) l → common l ≡ (when b then 0 else v)
        by [] i j = cc
        by (u ∷ us) i j =
            let q : v ≡ u = some_inj i in
            let j' : b ≡ any (λ x. not (eqb x u)) (u ∷ us) = subst (λ (w : ℕ). b ≡ any (λ x. not (eqb x w)) (u ∷ us)) q j in
            rw (q, j', eq-eqb u u refl) refl

    pub common_apart : b ≡ true → 0 ≡ common l
    unfolding when◌then◌else◌
    common_apart t = sym (common_as ∙ rw t refl)

    pub common_one : b ≡ false → v ≡ common l
    unfolding when◌then◌else◌
    common_one t = sym (common_as ∙ rw t refl)

pub ruleset commons = (common_none, common_apart, common_one)

-- ---- an expression

module _ (tape area : Text) (ws : List ℕ) where
  pub begins_not : length ws ≤ 0 → false ≡ any (is Keyword) (take 1 (tokens_of tape area ws))
  begins_not h = by ws h
    where
      by : (ws : List ℕ) → length ws ≤ 0 → false ≡ any (is Keyword) (take 1 (tokens_of tape area ws))
      by [] h = refl
      by (w ∷ ws) h = absurd (omega arith)

  pub begins_as : 0 < length ws → {k : ℕ} → k ≡ kind_of (get_or ws 0 0) → eqb k Keyword ≡ any (is Keyword) (take 1 (tokens_of tape area ws))
  unfolding is ◌or◌
  begins_as h e = by ws h e
    where
      or_end : (b : Bool) → b ≡ (b or false)
      or_end true = refl
      or_end false = refl

      by : (ws : List ℕ) → 0 < length ws → {k : ℕ} → k ≡ kind_of (get_or ws 0 0) → eqb k Keyword ≡ any (is Keyword) (take 1 (tokens_of tape area ws))
      by [] h e = absurd (omega arith)
      by (w ∷ ws) h e = rw e (or_end (eqb (kind_of w) Keyword))

  first_text_is : get_or (map (text_of tape area) ws) 0 [] ≡ text_or_empty (get (tokens_of tape area ws) 0)
  unfolding let_some◌else◌then◌
  first_text_is = by ws
    where
      by : (ws : List ℕ) → get_or (map (text_of tape area) ws) 0 [] ≡ text_or_empty (get (tokens_of tape area ws) 0)
      by [] = refl
      by (w ∷ ws) = refl

  pub front_is : {s : Text} → s ≡ get_or (map (text_of tape area) ws) 0 [] → s ≡ text_or_empty (get (tokens_of tape area ws) 0)
  front_is e = e ∙ first_text_is

  module _ (c : ℕ) {b : Bool} (eb : b ≡ is_cast (tokens_of tape area ws)) {x : ℕ} where
    pub natural_cast : b ≡ true → {s : Text} → s ≡ text_or_empty (get (tokens_of tape area ws) 0) → x ≡ cast_width s → x ≡ natural c (tokens_of tape area ws)
    unfolding natural when◌then◌else◌
    natural_cast t es ex = rw (← eb, t, ← es) ex

    pub natural_common : b ≡ false → x ≡ common (widths_in c [] (tokens_of tape area ws)) → x ≡ natural c (tokens_of tape area ws)
    unfolding natural when◌then◌else◌
    natural_common t ex = rw (← eb, t) ex

  pub plain_one : length ws ≡ 1 → true ≡ is_plain (tokens_of tape area ws)
  unfolding is_plain ◌or◌
  plain_one h = rw (length-map ws (token_of tape area), h) refl

  pub plain_cast : (length ws ≡ 1 → ⊥) → {x : Bool} → x ≡ is_cast (tokens_of tape area ws) → x ≡ is_plain (tokens_of tape area ws)
  unfolding is_plain ◌or◌
  plain_cast h e = rw (length-map ws (token_of tape area), ne_eqb (length ws) 1 h) e

pub ruleset beginning = (begins_not, begins_as)

pub ruleset naturals = (natural_cast, natural_common)

pub ruleset plain = (plain_one, plain_cast)

module _ (ts : List Token) {r : std.Option ℕ} (e : option_of r ≡ call_in ts) where
  pub call_none : r ≡ None → false ≡ lone_call ts
  unfolding lone_call let_some◌else◌then◌ ◌and◌
  call_none h = rw (← e, h) refl

  pub call_later : {k : ℕ} → r ≡ Some k → (k ≡ 0 → ⊥) → false ≡ lone_call ts
  unfolding lone_call let_some◌else◌then◌ ◌and◌
  call_later {k} h n = rw (← e, h, ne_eqb 0 k (λ q. n (sym q))) refl

  pub call_first : {k : ℕ} → r ≡ Some k → k ≡ 0 → {x : Bool} → x ≡ loose ts → flip x ≡ lone_call ts
  unfolding lone_call let_some◌else◌then◌ ◌and◌ not
  call_first h z {x} ex = rw (← e, h, z, ← ex) (go x)
    where
      go : (b : Bool) → flip b ≡ not b
      go true = refl
      go false = refl

pub ruleset calling = (call_none, call_later, call_first)
