-- A line's form as one of a few; cases and entries, token by token. Assumes nothing.
use Prim.Native.Nat.{ℕ, zero, suc, ◌+◌, ◌≤◌, ◌<◌}
use native.Mathlib.Omega.{arith}
use mathlib.Core.Path.{◌≡◌, refl, sym, ap, ◌∙◌}
use mathlib.Core.Bool.{Bool, true, false, cond, false≢true}
use mathlib.Core.List.{List, [], ◌∷◌, ◌++◌, flat_map}
use mathlib.Core.Option.{none, some}
use lib.Dec.{eqb, ltb}
use borrow.Author.Tests.{ltb-true}
use lib.ListN.{length, take, drop, get_or}
use Rattle.std.specs.Prelude.{filter}
use Rattle.std.specs.Prelude as std
use Rattle.std.proofs.Common.{eqb-true}
use Rattle.std.proofs.lemmas.List.{drop_more, drop_all}
use Rattle.reference.specs.Options.{option_of}
use Rattle.reference.specs.Control.{not, ◌and◌, ◌or◌, when◌then◌else◌, let_some◌else◌then◌}
use Rattle.reference.specs.Lists.{any, find, is_empty}
use Rattle.reference.specs.Text.{Text, bytes, has, contains, ◌≟◌}
use Rattle.reference.specs.Listing.{Token, is, Keyword, Punct}
use Rattle.laws.proofs.Scans.{any_append}
use Rattle.laws.proofs.Std.{eqb_turn}
use Rattle.cautions.specs.Forms.{signs_in, is_case, is_entered}
use Rattle.lines.specs.Words.{kind_of, text_of, token_of, tokens_of}
use Rattle.lines.proofs.shapes.Tests.{is_it, is_not}
use Rattle.flow.specs.declared.lineforms.Form.{Form}
use Rattle.flow.specs.declared.lineforms.Form.TheVariants.{Empty, Statement, Label, Opening, Block, Guarded, Do, Goto, IfGoto, Return, IfReturn, While, Closing, If, ElseIf, Else, Switch, Other}
use Rattle.cautions.specs.Forms.{CASES, CONTROL}
use Rattle.flow.specs.LineForms.{text_of_form, is_other, KNOWN, Classed, steering, has_entry, is_entering}

-- ---- forms

pub same_true : (a b : Text) → (a ≟ b) ≡ true → a ≡ b
unfolding ◌and◌
same_true [] [] e = refl
same_true [] (y ∷ ys) e = absurd (false≢true e)
same_true (x ∷ xs) [] e = absurd (false≢true e)
same_true (x ∷ xs) (y ∷ ys) e = go (eqb x y) refl e (same_true xs ys)
  where
    go : (b : Bool) → eqb x y ≡ b → (b and (xs ≟ ys)) ≡ true → ((xs ≟ ys) ≡ true → xs ≡ ys) → x ∷ xs ≡ y ∷ ys
    go true f h k = rw (eqb-true x y f, k h) refl
    go false f h k = absurd (false≢true h)

pub classed_as : (f : Form) {s : Text} {b : Bool} → b ≡ (text_of_form f ≟ s) → b ≡ true → is_other f ≡ false → Classed s f
classed_as f {s} e t o = record { known = λ x. sym (same_true (text_of_form f) s (sym e ∙ t)); other = λ x. absurd (false≢true (sym o ∙ x)) }

-- a short text is told from the front of another as from all of it
short_same : (n : ℕ) (a t : Text) → length a < n → (a ≟ take n t) ≡ (a ≟ t)
short_same zero a t h = absurd (omega arith)
short_same (suc n) [] [] h = refl
short_same (suc n) [] (y ∷ ys) h = refl
short_same (suc n) (x ∷ xs) [] h = refl
short_same (suc n) (x ∷ xs) (y ∷ ys) h = rw (short_same n xs ys (omega arith)) refl

all_short : List Text → Bool
all_short [] = true
all_short (a ∷ bs) = ltb (length a) 10 and all_short bs

short_has : (names : List Text) (t : Text) → all_short names ≡ true → has names (take 10 t) ≡ has names t
unfolding ◌and◌ all_short
short_has [] t e = refl
short_has (a ∷ bs) t e = go (ltb (length a) 10) refl e (short_has bs t)
  where
    go : (b : Bool) → ltb (length a) 10 ≡ b → (b and all_short bs) ≡ true → (all_short bs ≡ true → has bs (take 10 t) ≡ has bs t) → has (a ∷ bs) (take 10 t) ≡ has (a ∷ bs) t
    go true f h k = rw (short_same 10 a t (ltb-true (length a) 10 f), k h) refl
    go false f h k = absurd (false≢true h)

short_take : (n : ℕ) (t a : Text) → take n t ≡ a → length a < n → t ≡ a
short_take zero t a e h = absurd (omega arith)
short_take (suc n) [] a e h = e
short_take (suc n) (y ∷ ys) [] e h = absurd (cc)
short_take (suc n) (y ∷ ys) (x ∷ xs) e h =
    let p : y ≡ x = cc in
    let q : take n ys ≡ xs = cc in
    rw (p, short_take n ys xs q (omega arith)) refl

short_form : (f : Form) → ltb (length (text_of_form f)) 10 ≡ true
short_form Empty = refl
short_form Statement = refl
short_form Label = refl
short_form Opening = refl
short_form Block = refl
short_form Guarded = refl
short_form Do = refl
short_form Goto = refl
short_form IfGoto = refl
short_form Return = refl
short_form IfReturn = refl
short_form While = refl
short_form Closing = refl
short_form If = refl
short_form ElseIf = refl
short_form Else = refl
short_form Switch = refl
short_form Other = refl

pub classed_front : (f : Form) {s t : Text} → s ≡ take 10 t → Classed s f → Classed t f
unfolding all_short ◌and◌
classed_front f {s} {t} e c = record {
  known = λ o. short_take 10 t (text_of_form f) (sym e ∙ c.known o) (ltb-true (length (text_of_form f)) 10 (short_form f));
  other = λ o. sym (short_has KNOWN t refl) ∙ ap (has KNOWN) (sym e) ∙ c.other o;
}

-- ---- no known form

-- a text that is none of the known forms
pub record NoneOf (s : Text) : Type 0 where
  pub statement : (bytes ";" ≟ s) ≡ false
  pub empty : ([] ≟ s) ≡ false
  pub label : (bytes ":" ≟ s) ≡ false
  pub opening : (bytes "{" ≟ s) ≡ false
  pub block : (bytes "{}" ≟ s) ≡ false
  pub guarded : (bytes "if;" ≟ s) ≡ false
  pub do_line : (bytes "do{" ≟ s) ≡ false
  pub goto : (bytes "goto;" ≟ s) ≡ false
  pub if_goto : (bytes "ifgoto;" ≟ s) ≡ false
  pub return_line : (bytes "return;" ≟ s) ≡ false
  pub if_return : (bytes "ifreturn;" ≟ s) ≡ false
  pub while_line : (bytes "while};" ≟ s) ≡ false
  pub closing : (bytes "}" ≟ s) ≡ false
  pub if_line : (bytes "if{" ≟ s) ≡ false
  pub else_if : (bytes "elseif}{" ≟ s) ≡ false
  pub else_line : (bytes "else}{" ≟ s) ≡ false
  pub switch : (bytes "switch{" ≟ s) ≡ false

not_known : (t s : Text) → has KNOWN t ≡ true → has KNOWN s ≡ false → (t ≟ s) ≡ false
not_known t s k h = go (t ≟ s) refl
  where
    go : (b : Bool) → (t ≟ s) ≡ b → b ≡ false
    go true e = absurd (false≢true (sym h ∙ ap (has KNOWN) (sym (same_true t s e)) ∙ k))
    go false e = refl

pub none_of : (s : Text) → has KNOWN s ≡ false → NoneOf s
unfolding ◌or◌ ◌and◌
none_of s h = record {
  statement = not_known (bytes ";") s refl h;
  empty = not_known [] s refl h;
  label = not_known (bytes ":") s refl h;
  opening = not_known (bytes "{") s refl h;
  block = not_known (bytes "{}") s refl h;
  guarded = not_known (bytes "if;") s refl h;
  do_line = not_known (bytes "do{") s refl h;
  goto = not_known (bytes "goto;") s refl h;
  if_goto = not_known (bytes "ifgoto;") s refl h;
  return_line = not_known (bytes "return;") s refl h;
  if_return = not_known (bytes "ifreturn;") s refl h;
  while_line = not_known (bytes "while};") s refl h;
  closing = not_known (bytes "}") s refl h;
  if_line = not_known (bytes "if{") s refl h;
  else_if = not_known (bytes "elseif}{") s refl h;
  else_line = not_known (bytes "else}{") s refl h;
  switch = not_known (bytes "switch{") s refl h;
}

-- ---- cases

module _ (tape area : Text) (w : ℕ) {k : ℕ} (e : k ≡ kind_of w) where
  pub steers_not : (k ≡ Keyword → ⊥) → none ≡ steering (token_of tape area w)
  unfolding steering when◌then◌else◌ ◌and◌
  steers_not n = rw (← is_not (token_of tape area w) Keyword e n) refl

  module _ (h : k ≡ Keyword) {s : Text} (es : s ≡ text_of tape area w) {b : Bool} (eb : b ≡ has CASES s) where
    words : has (CASES ++ CONTROL) s ≡ (b or has CONTROL s)
    words = any_append (◌≟ s) CASES CONTROL ∙ ap (λ (x : Bool). x or has CONTROL s) (sym eb)

    at_word : steering (token_of tape area w) ≡ (when b or has CONTROL s then some b else none)
    unfolding steering when◌then◌else◌ ◌and◌
    at_word = rw (← is_it (token_of tape area w) Keyword e h, ← es, words, ← eb) refl

    pub steers_case : b ≡ true → some true ≡ steering (token_of tape area w)
    unfolding when◌then◌else◌ ◌or◌
    steers_case t = sym (at_word ∙ rw t refl)

    module _ (f : b ≡ false) {d : Bool} (ed : d ≡ has CONTROL s) where
      pub steers_control : d ≡ true → some false ≡ steering (token_of tape area w)
      unfolding when◌then◌else◌ ◌or◌
      steers_control t = sym (at_word ∙ rw (f, ← ed, t) refl)

      pub steers_none : d ≡ false → none ≡ steering (token_of tape area w)
      unfolding when◌then◌else◌ ◌or◌
      steers_none t = sym (at_word ∙ rw (f, ← ed, t) refl)

pub ruleset steers = (steers_not, steers_case, steers_control, steers_none)

-- by what its first token says
case_at : (t : Token) (ts : List Token) → is_case (t ∷ ts) ≡ (let_some (steering t) else is_case ts then λ b. b)
unfolding is_case steering let_some◌else◌then◌ when◌then◌else◌
case_at t ts = go (is Keyword t and has (CASES ++ CONTROL) t.text)
  where
    go : (b : Bool) → (let_some (when b then some t else find (λ t. is Keyword t and has (CASES ++ CONTROL) t.text) ts) else false then λ t. has CASES t.text)
        ≡ (let_some (when b then some (has CASES t.text) else none)
        else (let_some (find (λ t. is Keyword t and has (CASES ++ CONTROL) t.text) ts) else false then λ t. has CASES t.text) then λ b. b)
    go true = refl
    go false = refl

module _ (tape area : Text) (ws : List ℕ) (i : ℕ) where
  module _ (h : i < length ws) (o : std.Option Bool) (eo : option_of o ≡ steering (token_of tape area (get_or ws i 0))) {r : Bool}
      (inv : is_case (tokens_of tape area (drop i ws)) ≡ r) where
    at_token : (let_some (option_of o) else is_case (tokens_of tape area (drop (i + 1) ws)) then λ b. b) ≡ r
    at_token =
        rw eo (sym (case_at (token_of tape area (get_or ws i 0)) (tokens_of tape area (drop (i + 1) ws)))
        ∙ ap (λ (l : List ℕ). is_case (tokens_of tape area l)) (sym (drop_more ws i 0 h)) ∙ inv)

    pub case_here : {b : Bool} → o ≡ std.Some b → b ≡ r
    unfolding let_some◌else◌then◌
    case_here e = rw e at (at_token)

    pub case_further : o ≡ std.None → is_case (tokens_of tape area (drop (i + 1) ws)) ≡ r
    unfolding let_some◌else◌then◌
    case_further e = rw e at at_token

  pub case_end : length ws ≤ i → {r : Bool} → is_case (tokens_of tape area (drop i ws)) ≡ r → false ≡ r
  unfolding is_case let_some◌else◌then◌
  case_end h e = rw (drop_all i ws h) at e

-- ---- entries

entry_front : (s r : Text) → not (is_empty (filter (λ c. contains (bytes ":}") c) s ++ r)) ≡ (has_entry s or not (is_empty r))
unfolding has_entry ◌or◌ not
entry_front [] r = refl
entry_front (c ∷ cs) r = rw (eqb_turn 58 c, eqb_turn 125 c) (go (eqb c 58) (eqb c 125) (contains cs 58) (contains cs 125) (entry_front cs r))
  where
    go : (x y p q : Bool) → not (is_empty (filter (λ c. contains (bytes ":}") c) cs ++ r)) ≡ ((p or q) or not (is_empty r))
        → not (is_empty (cond (x or (y or false)) (c ∷ filter (λ c. contains (bytes ":}") c) cs) (filter (λ c. contains (bytes ":}") c) cs) ++ r))
        ≡ (((x or p) or (y or q)) or not (is_empty r))
    go true y p q h = refl
    go false true true q h = refl
    go false true false q h = refl
    go false false p q h = h

pub entered : (ts : List Token) → any is_entering ts ≡ is_entered ts
unfolding is_entered is_entering signs_in flat_map ◌or◌ ◌and◌ not when◌then◌else◌
entered [] = refl
entered (t ∷ ts) = go (is Punct t) (entered ts)
  where
    go : (b : Bool) → any is_entering ts ≡ not (is_empty (signs_in (bytes ":}") ts))
        → ((b and has_entry t.text) or any is_entering ts) ≡ not (is_empty ((when b then filter (λ c. contains (bytes ":}") c) t.text else []) ++ signs_in (bytes ":}") ts))
    go true h = rw h (sym (entry_front t.text (signs_in (bytes ":}") ts)))
    go false h = h
