-- What the facts of a line say: a transparent or calling line lacks the family, keywords, braces, and being a label; a transparent one
-- does not touch the family, and a calling one only as a call does. Assumes nothing.
use Prim.Native.Nat.{ℕ, ◌<◌}
use native.Mathlib.Omega.{arith}
use mathlib.Core.Path.{◌≡◌, refl, sym, ap, ◌∙◌}
use mathlib.Core.Bool.{Bool, true, false}
use mathlib.Core.List.{List, [], ◌∷◌}
use mathlib.Core.Option.{none}
use borrow.Author.Tests.{eqb-true, eq-eqb}
use Rattle.reference.specs.Control.{◌and◌, ◌or◌, when◌then◌else◌, let_some◌else◌then◌}
use Rattle.reference.specs.Lists.{any, count, position, pairs_from, is_some}
use Rattle.reference.specs.Text.{Text, bytes, has, ◌≟◌}
use Rattle.reference.specs.Listing.{Token, is, Keyword, Symbol}
use Rattle.reference.specs.Names.{family, fam_of, of_family}
use Rattle.reference.specs.Shapes.{Assignment, label_tokens, is_kw, kw_in, has_brace, braces_in, calls_here, call_in, assignment_of}
use Rattle.reference.specs.Life.{None, Kill, kills, touch_of}
use Rattle.reference.proofs.Cases.{both, neither, either, fails, true-false, some-true}
use Rattle.reference.proofs.Shapes.{Assigning, assigning, assigns}
use Rattle.names.proofs.Texts.{same_true}
use Rattle.lines.specs.Codes.{family_number}
use Rattle.lines.specs.Words.{tokens_of}
use Rattle.lines.specs.Facts.{bit, of_number, is_control}
use Rattle.lines.specs.Lines.{facts_of, part_of, Lined}
use Rattle.lines.proofs.codes.Coding.{number_below}
use Rattle.linefacts.specs.Transparent.{has_fact, is_transparent_save_calls, is_transparent, is_calling}
use Rattle.linefacts.proofs.Tokens.{control_fact, number_fact}

-- ---- tests of tokens that imply others

pub any-less : {A : Type 0} (p q : A → Bool) → ((a : A) → p a ≡ true → q a ≡ true) → (l : List A) → any q l ≡ false → any p l ≡ false
unfolding ◌or◌
any-less p q f [] e = refl
any-less p q f (a ∷ l) e =
    let n = neither e in
    let z : p a ≡ false = fails (λ t. true-false (f a t) n.0) in
    rw z (any-less p q f l n.1)

keyword_control : (t : Token) → is Keyword t ≡ true → is_control t ≡ true
unfolding is_control ◌or◌
keyword_control t e = rw e

brace_control : (t : Token) → has_brace t ≡ true → is_control t ≡ true
unfolding is_control ◌or◌
brace_control t e = step (is Keyword t)
  where
    step : (b : Bool) → (b or has_brace t or (t.text ≟ bytes ":")) ≡ true
    step true = refl
    step false = rw e

colon_control : (t : Token) → (t.text ≟ bytes ":") ≡ true → is_control t ≡ true
unfolding is_control ◌or◌
colon_control t e = step (is Keyword t) (has_brace t)
  where
    step : (b c : Bool) → (b or c or (t.text ≟ bytes ":")) ≡ true
    step true c = refl
    step false true = refl
    step false false = e

kw_control : (kw : Text) (t : Token) → is_kw kw t ≡ true → is_control t ≡ true
unfolding is_kw
kw_control kw t e = keyword_control t (both e).0

of_number_too : (fam : Text) (t : Token) → of_family fam t ≡ true → of_number (family_number fam) t ≡ true
unfolding of_family of_number let_some◌else◌then◌
of_number_too fam t e =
    let s = some-true {o = fam_of t} {p = λ f. f.name ≟ fam} e in
    rw s.1 (eq-eqb (family_number s.0.name) (family_number fam) (ap family_number (same_true s.0.name fam s.2)))

any-position : {A : Type 0} (p : A → Bool) (l : List A) → any p l ≡ false → position p l ≡ none
unfolding when◌then◌else◌ let_some◌else◌then◌
any-position p [] e = refl
any-position p (a ∷ l) e = rw ((neither e).0, any-position p l (neither e).1)

-- ---- tokens that are not of control flow

module _ (ts : List Token) (h : any is_control ts ≡ false) where
  plain_kw : (kw : Text) → any (is_kw kw) ts ≡ false
  plain_kw kw = any-less (is_kw kw) is_control (kw_control kw) ts h

  plain_brace : braces_in ts ≡ false
  unfolding braces_in
  plain_brace = any-less has_brace is_control brace_control ts h

plain_label : (ts : List Token) → any is_control ts ≡ false → label_tokens ts ≡ false
unfolding label_tokens
plain_label [] h = refl
plain_label (a ∷ []) h = refl
plain_label (a ∷ b ∷ []) h = fails (λ e. true-false (colon_control b (both e).0) (neither (neither h).1).0)
plain_label (a ∷ b ∷ c ∷ rest) h = refl

-- with no Symbol either there is no call
pairs-call : (t : Token) (ts : List Token) → any is_control (t ∷ ts) ≡ false → any (is Symbol) (t ∷ ts) ≡ false → position calls_here (pairs_from t ts) ≡ none
unfolding calls_here when◌then◌else◌ let_some◌else◌then◌
pairs-call t [] h s = refl
pairs-call t (u ∷ ts) h s =
    let z : calls_here (t, u) ≡ false = fails (λ e. either ⊥ e (λ a. true-false (both a).0 (neither s).0) (λ a. true-false (keyword_control t (both a).0) (neither h).0)) in
    rw (z, pairs-call u ts (neither h).1 (neither s).1)

pub plain-call : (ts : List Token) → any is_control ts ≡ false → any (is Symbol) ts ≡ false → is_some (call_in ts) ≡ false
unfolding call_in
plain-call [] h s = refl
plain-call (t ∷ ts) h s = rw (pairs-call t ts h s)

-- ---- tokens without the family

first_is : {ts : List Token} {a : Assignment} {t : Token} (fam : Text) → Assigning (t ∷ ts) a
    → (let_some (family a.lhs.text) else false then λ f. f.name ≟ fam) ≡ true → of_family fam t ≡ true
unfolding of_family fam_of when◌then◌else◌
first_is fam (assigning r p s c) e = rw r e

-- a line whose first token is of another family does not overwrite the family
pub kills-other : (t : Token) (ts : List Token) (fam : Text) → of_family fam t ≡ false → kills (t ∷ ts) fam ≡ false
unfolding kills let_some◌else◌then◌
kills-other t ts fam n = fails (λ e.
    let a = some-true {o = assignment_of (t ∷ ts)} e in
    let f = some-true {o = family a.0.lhs.text} a.2 in
    true-false (first_is fam (assigns (t ∷ ts) a.0 a.1) (rw f.1 (both f.2).0)) n)

pub kills-empty : (fam : Text) → kills [] fam ≡ false
unfolding kills assignment_of let_some◌else◌then◌
kills-empty fam = refl

lacks-kills : (ts : List Token) (fam : Text) → any (of_family fam) ts ≡ false → kills ts fam ≡ false
lacks-kills [] fam e = kills-empty fam
lacks-kills (t ∷ ts) fam e = kills-other t ts fam (neither e).0

count_none : (fam : Text) (ts : List Token) → any (of_family fam) ts ≡ false → count (of_family fam) ts ≡ 0
unfolding when◌then◌else◌
count_none fam [] e = refl
count_none fam (t ∷ ts) e = rw (neither e).0 (count_none fam ts (neither e).1)

lacks-touch : (ts : List Token) (fam : Text) (vs : List Text) → any (of_family fam) ts ≡ false → touch_of ts fam vs ≡ (when is_some (call_in ts) and has vs fam then Kill else None)
unfolding touch_of when◌then◌else◌
lacks-touch ts fam vs f = rw (lacks-kills ts fam f, count_none fam ts f)

-- ---- what the facts of a line say

noted-bit : (l i : ℕ) → has_fact l i ≡ true → bit (facts_of l) i ≡ 1
unfolding has_fact
noted-bit l i e = eqb-true (bit (facts_of l) i) 1 e

module _ {tape area : Text} {tokens : List ℕ} {l n : ℕ} (fam : Text) (h : Lined tape area tokens l) (en : n ≡ family_number fam) where
  abbrev ts : List Token
  ts = tokens_of tape area (part_of tokens l)

  -- a line that lacks the family and control flow
  module _ (st : is_transparent_save_calls l n ≡ true) where
    save-calls_control : any is_control ts ≡ false
    unfolding is_transparent_save_calls
    save-calls_control = any-less is_control _ (λ u e. control_fact u 15 refl ∙ e) ts (h.facts.lacks 15 (omega arith) (noted-bit l 15 (both st).1))

    save-calls-family : any (of_family fam) ts ≡ false
    unfolding is_transparent_save_calls
    save-calls-family =
        any-less (of_family fam) _ (λ u e. number_fact u n (λ q. omega (arith, number_below fam)) ∙ rw en (of_number_too fam u e)) ts
        (h.facts.lacks n (omega (arith, number_below fam)) (noted-bit l n (both st).0))

    pub save-calls_kw : (kw : Text) → kw_in ts kw ≡ false
    unfolding kw_in
    save-calls_kw = plain_kw ts save-calls_control

    pub save-calls_goto : position (is_kw (bytes "goto")) ts ≡ none
    save-calls_goto = any-position (is_kw (bytes "goto")) ts (plain_kw ts save-calls_control (bytes "goto"))

    pub save-calls_brace : braces_in ts ≡ false
    save-calls_brace = plain_brace ts save-calls_control

    pub save-calls-label : label_tokens ts ≡ false
    save-calls-label = plain_label ts save-calls_control

  -- a transparent line: x is the answer of `is_transparent`
  module _ {x : Bool} (ex : x ≡ is_transparent l n) (t : x ≡ true) where
    pub transparent_save_calls : is_transparent_save_calls l n ≡ true
    unfolding is_transparent
    transparent_save_calls = (both (sym ex ∙ t)).0

    pub transparent_call : is_some (call_in ts) ≡ false
    unfolding is_transparent
    transparent_call = h.facts.no_call (noted-bit l 16 (both {a = is_transparent_save_calls l n} (sym ex ∙ t)).1)

    pub transparent_touch : (vs : List Text) → touch_of ts fam vs ≡ None
    unfolding when◌then◌else◌ ◌and◌
    transparent_touch vs = lacks-touch ts fam vs (save-calls-family transparent_save_calls) ∙ rw transparent_call

  -- a calling line: x is the answer of `is_calling`
  module _ {x : Bool} (ex : x ≡ is_calling l n) (t : x ≡ true) where
    pub calling-save-calls : is_transparent_save_calls l n ≡ true
    unfolding is_calling
    calling-save-calls = (both (sym ex ∙ t)).0

    pub calling-call : is_some (call_in ts) ≡ true
    unfolding is_calling
    calling-call = h.facts.calling (noted-bit l 17 (both {a = is_transparent_save_calls l n} (sym ex ∙ t)).1)

    calling-touch : (vs : List Text) → touch_of ts fam vs ≡ (when has vs fam then Kill else None)
    unfolding ◌and◌
    calling-touch vs = lacks-touch ts fam vs (save-calls-family calling-save-calls) ∙ rw calling-call

    -- v is whether calls overwrite the family
    module _ (vs : List Text) {v : Bool} (ev : v ≡ has vs fam) where
      pub calling-kills : v ≡ true → touch_of ts fam vs ≡ Kill
      unfolding when◌then◌else◌
      calling-kills e = calling-touch vs ∙ rw (← ev, e)

      pub calling_keeps : v ≡ false → touch_of ts fam vs ≡ None
      unfolding when◌then◌else◌
      calling_keeps e = calling-touch vs ∙ rw (← ev, e)

-- the number of a family is that of a fact
pub number_fits : {n : ℕ} (fam : Text) → n ≡ family_number fam → n < 15
number_fits fam e = rw e (number_below fam)
