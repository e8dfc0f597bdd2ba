-- The tests of a line say what `breaks` says: all hold where the line is in the profile, one fails where it is not. Assumes nothing.
use Rattle.std.proofs.Common.{◌≡◌, ℕ, zero, suc, ◌+◌, ◌<◌, ◌≤◌, ◌&&◌, Bool, true, false, not, eqb, List, [], ◌∷◌, ◌++◌, map, length, ℤ, sym, refl, ap, ◌∙◌, arith, if◌then◌else◌}
use Rattle.std.proofs.Common.{get_or, add-one, eq-eqb, ne_eqb}
use lib.ListN.{length-map}
use Rattle.std.proofs.Math.Dec.{eqb-suc-suc, eqb-suc-zero, eqb-zero-suc}
use mathlib.Core.Option.{Option, none, some}
use mathlib.Core.Bool.{false≢true, true≢false}
use Rattle.std.specs.Prelude as std
use Rattle.std.specs.Prelude.{Some, None}
use Rattle.reference.specs.Control.{◌and◌, ◌or◌, when◌then◌else◌, let_some◌else◌then◌}
use Rattle.reference.specs.Lists.{any, is_some, is_empty, get}
use Rattle.reference.specs.Text.{Text, bytes}
use Rattle.reference.specs.Listing.{Token, is, Register, Number, Punct, Line, Listing}
use Rattle.reference.specs.Names.{fam_of}
use Rattle.reference.specs.Numbers.{parse_c_number}
use Rattle.reference.specs.Shapes.{is_kw}
use Rattle.reference.specs.Evaluators.{modulo, wide, is_tidy, number_of, Lexeme, sign, reg, num, junk, lexemes_of, lexemes, behind, Operator, operator, combine, expression, term, further, evaluate}
use Rattle.reference.specs.Straight.{zeros, assigned_value, returned_value, puncts_apart, assigns_wide, returns_value, breaks_from, breaks}
use Rattle.reference.proofs.Cases.{by-some, both, neither, some_inj, none-some, if_some, unless-some, bind-some, same_number}
use Rattle.laws.proofs.Scans.{any_append, and_true, and_false, and_kept, or_false, if-true, if-false}
use Rattle.lines.specs.Words.{tokens_of}
use Rattle.lines.specs.Lines.{indent_of, part_of, Reading, line_read, listing_read}
use Rattle.formula.specs.Terms.{is_junk}
use Rattle.formula.specs.Breaches.{is_narrow, is_untidy, is_unread, is_foreign, open_past, open_in, open_after, open_behind, is_paired, Test, token_tests, before, whole_tests}
use Rattle.formula.specs.Breaches.{tests_of, line_tests, first_breach, first_indent, breach_in, breach_at, Fails, Told, no_line, fails, Tells}
use Rattle.formula.specs.declared.breaches.Breach.{Breach}
use Rattle.formula.specs.declared.breaches.Breach.TheVariants as breach
use Rattle.formula.proofs.Left.{punct-lexemes, One, a_register, a_number, a_junk, one_of}
use Rattle.formula.proofs.Junk.{evaluated}

-- ---- where an expression is read, no token by itself breaks the profile

register_kind : (t : Token) (x : Text) → wide t ≡ some x → t.kind ≡ Register
unfolding wide fam_of is
register_kind t x e = same_number (if_some (bind-some e).1).0

number_known : (t : Token) (z : ℤ) → number_of t ≡ some z → (t.kind ≡ Number) × (is_tidy t.text ≡ true) × (parse_c_number t.text ≡ some z)
unfolding number_of is
number_known t z e = let q = if_some e in let b = both q.0 in (same_number b.0, b.1, q.1)

-- what a token is that is no junk
data Sound (t : Token) : Type 0 where
  of_signs : t.kind ≡ Punct → Sound t
  of_register : t.kind ≡ Register → is_some (wide t) ≡ true → Sound t
  of_number : t.kind ≡ Number → is_tidy t.text ≡ true → is_some (parse_c_number t.text) ≡ true → Sound t

junked : any is_junk (junk ∷ []) ≡ true
unfolding is_junk ◌or◌
junked = refl

sound : (t : Token) → any is_junk (lexemes_of t) ≡ false → Sound t
sound t h = go (is Punct t) refl
  where
    one : One t → Sound t
    one (a_register x w e) = of_register (register_kind t x w) (ap is_some w)
    one (a_number z w n e) = let k = number_known t z n in of_number k.0 k.1 (ap is_some k.2)
    one (a_junk w n e) = absurd (true≢false (sym (ap (any is_junk) e ∙ junked) ∙ h))

    go : (b : Bool) → is Punct t ≡ b → Sound t
    go true e = of_signs (same_number (unfold is in e))
    go false e = one (one_of t e)

last_false : (a : Bool) → (a && false) ≡ false
last_false true = refl
last_false false = refl

sound_narrow : (t : Token) → Sound t → is_narrow t ≡ false
sound_narrow t (of_signs k) = rw k refl
sound_narrow t (of_register k w) = ap (λ (b : Bool). eqb t.kind Register && not b) w ∙ last_false (eqb t.kind Register)
sound_narrow t (of_number k d p) = rw k refl

sound_untidy : (t : Token) → Sound t → is_untidy t ≡ false
sound_untidy t (of_signs k) = rw k refl
sound_untidy t (of_register k w) = rw k refl
sound_untidy t (of_number k d p) = rw (k, d) refl

sound_unread : (t : Token) → Sound t → is_unread t ≡ false
sound_unread t (of_signs k) = rw k refl
sound_unread t (of_register k w) = rw k refl
sound_unread t (of_number k d p) = rw (k, p) refl

sound_foreign : (t : Token) → Sound t → is_foreign t ≡ false
sound_foreign t (of_signs k) = rw k refl
sound_foreign t (of_register k w) = rw k refl
sound_foreign t (of_number k d p) = rw k refl

none_such : (p : Token → Bool) → ((t : Token) → Sound t → p t ≡ false) → (ts : List Token) → any is_junk (lexemes ts) ≡ false → any p ts ≡ false
unfolding lexemes ◌or◌
none_such p h [] e = refl
none_such p h (t ∷ ts) e =
    let q = neither (sym (any_append is_junk (lexemes_of t) (lexemes ts)) ∙ e) in
    rw (h t (sound t q.0)) (none_such p h ts q.1)

-- ---- ... and its brackets are paired

-- over lexemes
abbrev open_over : ℕ → List Lexeme → Option ℕ
open_over n [] = some n
open_over n (sign b ∷ xs) = let_some (open_past n b) else none then λ m. open_over m xs
open_over n (reg x ∷ xs) = open_over n xs
open_over n (num z ∷ xs) = open_over n xs
open_over n (junk ∷ xs) = open_over n xs

over-signs : (n : ℕ) (s : Text) (xs : List Lexeme) → open_over n (map sign s ++ xs) ≡ (let_some (open_in n s) else none then λ m. open_over m xs)
unfolding open_in let_some◌else◌then◌
over-signs n [] xs = refl
over-signs n (b ∷ s) xs = go (λ m. over-signs m s xs) (open_past n b)
  where
    go : ((m : ℕ) → open_over m (map sign s ++ xs) ≡ (let_some (open_in m s) else none then λ k. open_over k xs)) → (o : Option ℕ) → (let_some o else none then λ m. open_over m (map sign s ++ xs))
        ≡ (let_some (let_some o else none then λ m. open_in m s) else none then λ m. open_over m xs)
    go more none = refl
    go more (some m) = more m

over-tokens : (n : ℕ) (ts : List Token) → open_behind n ts ≡ open_over n (lexemes ts)
unfolding open_behind lexemes let_some◌else◌then◌
over-tokens n [] = refl
over-tokens n (t ∷ ts) = go (λ m. over-tokens m ts) (is Punct t) refl
  where
    rest : ((m : ℕ) → open_behind m ts ≡ open_over m (lexemes ts)) → (o : Option ℕ) → (let_some o else none then λ m. open_behind m ts) ≡ (let_some o else none then λ m. open_over m (lexemes ts))
    rest more none = refl
    rest more (some m) = more m

    one : ((m : ℕ) → open_behind m ts ≡ open_over m (lexemes ts)) → eqb t.kind Punct ≡ false → One t
        → (let_some (open_after n t) else none then λ m. open_behind m ts) ≡ open_over n (lexemes_of t ++ lexemes ts)
    one more k (a_register x w e) = rw (k, e) (more n)
    one more k (a_number z w q e) = rw (k, e) (more n)
    one more k (a_junk w q e) = rw (k, e) (more n)

    go : ((m : ℕ) → open_behind m ts ≡ open_over m (lexemes ts)) → (b : Bool) → is Punct t ≡ b
        → (let_some (open_after n t) else none then λ m. open_behind m ts) ≡ open_over n (lexemes_of t ++ lexemes ts)
    go more true e = let k : eqb t.kind Punct ≡ true = unfold is in e in rw (k, punct-lexemes t e) (rest more (open_in n t.text) ∙ sym (over-signs n t.text (lexemes ts)))
    go more false e = one more (unfold is in e) (one_of t e)

behind-open : (t : Text) (xs rest : List Lexeme) → behind t xs ≡ some rest → (n : ℕ) → open_over n xs ≡ (let_some (open_in n t) else none then λ m. open_over m rest)
unfolding behind open_in let_some◌else◌then◌
behind-open [] xs rest e n = ap (open_over n) (some_inj e)
behind-open (c ∷ cs) [] rest e n = absurd (none-some e)
behind-open (c ∷ cs) (sign b ∷ xs) rest e n =
    let q = if_some e in
    let k : b ≡ c = same_number q.0 in
    rw k (go (λ m. behind-open cs xs rest q.1 m) (open_past n c))
  where
    go : ((m : ℕ) → open_over m xs ≡ (let_some (open_in m cs) else none then λ k. open_over k rest)) → (o : Option ℕ) → (let_some o else none then λ m. open_over m xs)
        ≡ (let_some (let_some o else none then λ m. open_in m cs) else none then λ m. open_over m rest)
    go more none = refl
    go more (some m) = more m
behind-open (c ∷ cs) (reg x ∷ xs) rest e n = absurd (none-some e)
behind-open (c ∷ cs) (num z ∷ xs) rest e n = absurd (none-some e)
behind-open (c ∷ cs) (junk ∷ xs) rest e n = absurd (none-some e)

operator-open : (xs : List Lexeme) (o : Operator × List Lexeme) → operator xs ≡ some o → (n : ℕ) → open_over n xs ≡ open_over n o.1
unfolding operator open_in let_some◌else◌then◌
operator-open xs o e n =
    by-some (λ (r : Option (Operator × List Lexeme)). r ≡ some o → open_over n xs ≡ open_over n o.1)
    (λ k. by-some (λ (r : Option (Operator × List Lexeme)). r ≡ some o → open_over n xs ≡ open_over n o.1)
    (λ m e. absurd (none-some e))
    (λ rest b e. behind-open (bytes " - ") xs rest b n ∙ ap (λ (q : Operator × List Lexeme). open_over n q.1) (some_inj e)))
    (λ rest b e. behind-open (bytes " + ") xs rest b n ∙ ap (λ (q : Operator × List Lexeme). open_over n q.1) (some_inj e))
    e

opened : (c : ℕ) (xs : List Lexeme) → c ≡ 40 → (n : ℕ) → (let_some (open_past n c) else none then λ m. open_over m xs) ≡ open_over (suc n) xs
unfolding let_some◌else◌then◌
opened c xs k n = rw k refl

closed : (rest : List Lexeme) (n : ℕ) → (let_some (open_in (suc n) (bytes ")")) else none then λ m. open_over m rest) ≡ open_over n rest
unfolding let_some◌else◌then◌ open_in
closed rest n = rw (eqb-suc-zero n) refl

unbracketed : (last : Bool) (ys : List Lexeme) → (let_some (open_in 0 (before last)) else none then λ m. open_over m ys) ≡ open_over 0 ys
unfolding let_some◌else◌then◌ open_in
unbracketed true ys = refl
unbracketed false ys = refl

semicolon : (rest : List Lexeme) → (let_some (open_in 0 (bytes ";")) else none then λ m. open_over m rest) ≡ open_over 0 rest
unfolding let_some◌else◌then◌ open_in
semicolon rest = refl

mutual
  unfolding expression

  expression-open : (fuel : ℕ) (xs : List Lexeme) (r : ℕ × List Lexeme) → expression modulo zeros fuel xs ≡ some r → (n : ℕ) → open_over n xs ≡ open_over n r.1
  expression-open zero xs r e n = absurd (none-some e)
  expression-open (suc fuel) xs r e n = let t = bind-some e in term-open fuel xs t.0 t.1 n ∙ further-open fuel t.0.0 t.0.1 r t.2 n

  term-open : (fuel : ℕ) (xs : List Lexeme) (r : ℕ × List Lexeme) → term modulo zeros fuel xs ≡ some r → (n : ℕ) → open_over n xs ≡ open_over n r.1
  term-open zero xs r e n = absurd (none-some e)
  term-open (suc fuel) [] r e n = absurd (none-some e)
  term-open (suc fuel) (reg x ∷ xs) r e n = ap (λ (q : ℕ × List Lexeme). open_over n q.1) (some_inj e)
  term-open (suc fuel) (num z ∷ xs) r e n = ap (λ (q : ℕ × List Lexeme). open_over n q.1) (some_inj e)
  term-open (suc fuel) (junk ∷ xs) r e n = absurd (none-some e)
  term-open (suc fuel) (sign c ∷ xs) r e n =
      let i = if_some e in
      let t = bind-some i.1 in
      let q = bind-some t.2 in
      let k : c ≡ 40 = same_number i.0 in
      opened c xs k n ∙ expression-open fuel xs t.0 t.1 (suc n) ∙ behind-open (bytes ")") t.0.1 q.0 q.1 (suc n) ∙ closed q.0 n
      ∙ ap (λ (q : ℕ × List Lexeme). open_over n q.1) (some_inj q.2)

  further-open : (fuel : ℕ) (v : ℕ) (xs : List Lexeme) (r : ℕ × List Lexeme) → further modulo zeros fuel v xs ≡ some r → (n : ℕ) → open_over n xs ≡ open_over n r.1
  further-open zero v xs r e n = absurd (none-some e)
  further-open (suc fuel) v xs r e n =
      by-some (λ (o : Option (ℕ × List Lexeme)). o ≡ some r → open_over n xs ≡ open_over n r.1)
      (λ k e. ap (λ (q : ℕ × List Lexeme). open_over n q.1) (some_inj e))
      (λ o h e. (let t = bind-some e in operator-open xs o h n ∙ term-open fuel o.1 t.0 t.1 n ∙ further-open fuel (combine modulo o.0 v t.0.0) t.0.1 r t.2 n))
      e

over-open : (zs : List Lexeme) → is_empty zs ≡ true → open_over 0 zs ≡ some 0
over-open [] h = refl
over-open (z ∷ zs) h = absurd (false≢true h)

none_open : (last : Bool) (ts : List Token) (v : ℕ) → evaluate modulo zeros (before last) (lexemes ts) ≡ some v → open_behind 0 ts ≡ some 0
unfolding evaluate
none_open last ts v e =
    let ys = bind-some e in
    let r = bind-some ys.2 in
    let rest = bind-some r.2 in
    over-tokens 0 ts ∙ behind-open (before last) (lexemes ts) ys.0 ys.1 0 ∙ unbracketed last ys.0 ∙ expression-open _ ys.0 r.0 r.1 0
    ∙ behind-open (bytes ";") r.0.1 rest.0 rest.1 0 ∙ semicolon rest.0 ∙ over-open rest.0 (if_some rest.2).0

paired : (last : Bool) (ts : List Token) (v : ℕ) → evaluate modulo zeros (before last) (lexemes ts) ≡ some v → is_paired ts ≡ true
unfolding is_paired let_some◌else◌then◌
paired last ts v e = rw (none_open last ts v e) refl

-- ---- the tests of a line, all together

-- whether all hold
abbrev passes : List Test → Bool
passes [] = true
passes (q ∷ qs) = let r = passes qs in q.1 and r

passes-append : (qs rs : List Test) → passes (qs ++ rs) ≡ (passes qs and passes rs)
unfolding ◌and◌
passes-append [] rs = refl
passes-append (q ∷ qs) rs = go (passes-append qs rs) q.1
  where
    go : passes (qs ++ rs) ≡ (passes qs and passes rs) → (x : Bool) → (x and passes (qs ++ rs)) ≡ ((x and passes qs) and passes rs)
    go more true = more
    go more false = refl

-- what is asked of an expression
abbrev read : Bool → List Token → Bool
read last ts = is_some (evaluate modulo zeros (before last) (lexemes ts))

read_begun : (last : Bool) (ts : List Token) (v : ℕ) → evaluate modulo zeros (before last) (lexemes ts) ≡ some v → is_some (behind (before last) (lexemes ts)) ≡ true
unfolding evaluate
read_begun last ts v e = ap is_some (bind-some e).1

sink : (a : Bool) {r : Bool} → r ≡ false → (a and r) ≡ false
unfolding ◌and◌
sink true h = h
sink false h = refl

expression-passes : (last : Bool) (ts : List Token) → passes (token_tests ts ++ whole_tests last ts) ≡ (read last ts and puncts_apart false ts)
expression-passes last ts = go (evaluate modulo zeros (before last) (lexemes ts)) refl
  where
    go : (o : Option ℕ) → evaluate modulo zeros (before last) (lexemes ts) ≡ o → passes (token_tests ts ++ whole_tests last ts) ≡ (read last ts and puncts_apart false ts)
    go (some v) e =
        let j = evaluated modulo zeros (before last) (lexemes ts) v e in
        let a : any is_narrow ts ≡ false = none_such is_narrow sound_narrow ts j in
        let b : any is_untidy ts ≡ false = none_such is_untidy sound_untidy ts j in
        let c : any is_unread ts ≡ false = none_such is_unread sound_unread ts j in
        let d : any is_foreign ts ≡ false = none_such is_foreign sound_foreign ts j in
        and_true _ (ap not a) ∙ and_true _ (ap not b) ∙ and_true _ (ap not c) ∙ and_true _ (ap not d) ∙ and_true _ (read_begun last ts v e)
        ∙ and_true _ (paired last ts v e)
        ∙ ap (λ (r : Bool). read last ts and r) (and_kept (puncts_apart false ts))
    go none e =
        sink (not (any is_narrow ts))
        (sink (not (any is_untidy ts))
        (sink (not (any is_unread ts))
        (sink (not (any is_foreign ts))
        (sink (is_some (behind (before last) (lexemes ts))) (sink (is_paired ts) (and_false _ (ap is_some e)))))))
        ∙ sym (and_false _ (ap is_some e))

-- what `breaks` asks of a line
abbrev ok : Bool → ℕ → Line → Bool
ok last indent l = eqb l.indent indent and (if last then returns_value l.tokens else assigns_wide l.tokens)

tokens-pass : (last : Bool) (ts : List Token) → passes (tests_of last ts) ≡ (if last then returns_value ts else assigns_wide ts)
unfolding tests_of returns_value assigns_wide returned_value assigned_value
tokens-pass true [] = and_false _ refl
tokens-pass false [] = and_false _ refl
tokens-pass true (t ∷ ts) = ap (λ (r : Bool). is_kw (bytes "return") t and r) (expression-passes true ts)
tokens-pass false (t ∷ ts) = ap (λ (r : Bool). is_some (wide t) and r) (expression-passes false ts)

line-passes : (last : Bool) (indent : ℕ) (l : Line) → passes (line_tests last indent l) ≡ ok last indent l
line-passes last indent l = ap (λ (r : Bool). eqb l.indent indent and r) (tokens-pass last l.tokens)

-- ---- the first test that fails

none_first : (qs : List Test) → passes qs ≡ true → first_breach qs ≡ None
unfolding first_breach
none_first [] e = refl
none_first (q ∷ qs) e = let b = both e in rw b.0 (none_first qs b.1)

record Failing (qs : List Test) : Type 0 where
  what : Breach
  first : first_breach qs ≡ Some what
  told : Fails qs what

one_first : (qs : List Test) → passes qs ≡ false → Failing qs
unfolding first_breach
one_first [] e = absurd (true≢false e)
one_first (q ∷ qs) e = go (one_first qs) q.1 refl e
  where
    go : (passes qs ≡ false → Failing qs) → (x : Bool) → q.1 ≡ x → (x and passes qs) ≡ false → Failing (q ∷ qs)
    go more true p e =
        let r = more (sym (and_true _ refl) ∙ e) in
        record {
          what = r.what;
          first = rw p r.first;
          told = record {
            front = q ∷ r.told.front;
            rest = r.told.rest;
            splits = ap {B = List Test} (λ (ts : List Test). q ∷ ts) r.told.splits;
            hold = or_false _ (ap not p) ∙ r.told.hold;
          };
        }
    go more false p e =
        record {
          what = q.0;
          first = rw p refl;
          told = record { front = []; rest = qs; splits = ap {B = List Test} (λ (x : Bool). (q.0, x) ∷ qs) p; hold = refl };
        }

-- ---- a listing

none_if : {x : Bool} (n : ℕ) → (when x then none else some n) ≡ none → x ≡ true
unfolding when◌then◌else◌
none_if {x = true} n e = refl
none_if {x = false} n e = absurd (none-some (sym e))

module _ (indent : ℕ) where
  record Fits (ls : Listing) (k : ℕ) : Type 0 where
    line : Line
    there : get ls k ≡ some line
    is_ok : ok (eqb (suc k) (length ls)) indent line ≡ true

  record Broke (ls : Listing) (k : ℕ) : Type 0 where
    line : Line
    there : get ls k ≡ some line
    not_ok : ok (eqb (suc k) (length ls)) indent line ≡ false
    earlier : (j : ℕ) → j < k → Fits ls j

  not_last : (ls : Listing) (l m : Line) → eqb 1 (length (l ∷ m ∷ ls)) ≡ false
  not_last ls l m = eqb-suc-suc 0 (suc (length ls)) ∙ eqb-zero-suc (length ls)

  fits_next : (l : Line) (ls : Listing) (k : ℕ) → Fits ls k → Fits (l ∷ ls) (suc k)
  fits_next l ls k f = record { line = f.line; there = f.there; is_ok = rw (eqb-suc-suc (suc k) (length ls)) f.is_ok }

  fits_first : (l m : Line) (ls : Listing) → (eqb l.indent indent and assigns_wide l.tokens) ≡ true → Fits (l ∷ m ∷ ls) 0
  fits_first l m ls e = record { line = l; there = refl; is_ok = rw (not_last ls l m) e }

  record Later (n m : ℕ) (ls : Listing) : Type 0 where
    k : ℕ
    is : m ≡ n + k
    broke : Broke ls k

  later : (n : ℕ) (l : Line) (ls : Listing) (m : ℕ) → breaks_from indent n (l ∷ ls) ≡ some m → Later n m (l ∷ ls)
  unfolding breaks_from
  later n l [] m e =
      let q = unless-some e in
      let z : n ≡ m = some_inj q.1 in
      record { k = 0; is = omega (arith, z); broke = record { line = l; there = refl; not_ok = q.0; earlier = λ j h. absurd (omega arith) } }
  later n l (o ∷ ls) m e = go (later (suc n) o ls m) (eqb l.indent indent and assigns_wide l.tokens) refl e
    where
      go : (breaks_from indent (suc n) (o ∷ ls) ≡ some m → Later (suc n) m (o ∷ ls)) → (x : Bool) → (eqb l.indent indent and assigns_wide l.tokens) ≡ x
          → (when x then breaks_from indent (suc n) (o ∷ ls) else some n) ≡ some m → Later n m (l ∷ o ∷ ls)
      go more true p e = next (more (sym (if-true _ _ refl) ∙ e))
        where
          next : Later (suc n) m (o ∷ ls) → Later n m (l ∷ o ∷ ls)
          next r =
              record {
                k = suc r.k;
                is = omega (arith, r.is);
                broke = record {
                  line = r.broke.line;
                  there = r.broke.there;
                  not_ok = rw (eqb-suc-suc (suc r.k) (length (o ∷ ls))) r.broke.not_ok;
                  earlier = each;
                };
              }
            where
              each : (j : ℕ) → j < suc r.k → Fits (l ∷ o ∷ ls) j
              each zero h = fits_first l o ls p
              each (suc j) h = fits_next l (o ∷ ls) j (r.broke.earlier j (omega arith))
      go more false p e =
          let z : n ≡ m = some_inj (sym (if-false _ _ refl) ∙ e) in
          record {
            k = 0;
            is = omega (arith, z);
            broke = record { line = l; there = refl; not_ok = rw (not_last ls l o) p; earlier = λ j h. absurd (omega arith) };
          }

  all_fit : (n : ℕ) (l : Line) (ls : Listing) → breaks_from indent n (l ∷ ls) ≡ none → (k : ℕ) → k < length (l ∷ ls) → Fits (l ∷ ls) k
  unfolding breaks_from
  all_fit n l [] e zero h = record { line = l; there = refl; is_ok = none_if n e }
  all_fit n l [] e (suc k) h = absurd (omega arith)
  all_fit n l (o ∷ ls) e k h = go (all_fit (suc n) o ls) (eqb l.indent indent and assigns_wide l.tokens) refl e k h
    where
      go : (breaks_from indent (suc n) (o ∷ ls) ≡ none → (k : ℕ) → k < length (o ∷ ls) → Fits (o ∷ ls) k) → (x : Bool)
          → (eqb l.indent indent and assigns_wide l.tokens) ≡ x → (when x then breaks_from indent (suc n) (o ∷ ls) else some n) ≡ none
          → (k : ℕ) → k < length (l ∷ o ∷ ls) → Fits (l ∷ o ∷ ls) k
      go more true p e zero h = fits_first l o ls p
      go more true p e (suc k) h = fits_next l (o ∷ ls) k (more (sym (if-true _ _ refl) ∙ e) k (omega arith))
      go more false p e k h = absurd (none-some (sym e ∙ if-false _ _ refl))

told_at : (lines : Listing) (n : ℕ) (l : Line) → get lines n ≡ some l → breach_at lines n ≡ first_breach (line_tests (eqb (suc n) (length lines)) (first_indent lines) l)
unfolding breach_at
told_at lines n l e = ap (breach_in lines n) e

-- THE TESTS SAY WHAT `breaks` SAYS
pub tells : (lines : Listing) → Tells lines
unfolding breaks first_indent
tells [] =
    record {
      refused = λ n e. (breach.NoLine, unfold breach_at in refl, no_line refl);
      before_it = λ n k e h. (let z : 0 ≡ n = some_inj e in absurd (omega (arith, z, h)));
      passed = λ e k h. absurd (none-some (sym e));
    }
tells (l ∷ ls) = record { refused = refused; before_it = before_it; passed = passed }
  where
    fit_none : (k : ℕ) → Fits l.indent (l ∷ ls) k → breach_at (l ∷ ls) k ≡ None
    fit_none k f = told_at (l ∷ ls) k f.line f.there ∙ none_first _ (line-passes _ l.indent f.line ∙ f.is_ok)

    refused : (n : ℕ) → breaks_from l.indent 0 (l ∷ ls) ≡ some n → (b : Breach) × (breach_at (l ∷ ls) n ≡ Some b) × Told (l ∷ ls) n b
    refused n e =
        let r = later l.indent 0 l ls n e in
        let z : n ≡ r.k = omega (arith, r.is) in
        rw z (let f = one_first _ (line-passes _ l.indent r.broke.line ∙ r.broke.not_ok) in
        (f.what, told_at (l ∷ ls) r.k r.broke.line r.broke.there ∙ f.first, fails r.broke.line r.broke.there f.told))

    before_it : (n k : ℕ) → breaks_from l.indent 0 (l ∷ ls) ≡ some n → k < n → breach_at (l ∷ ls) k ≡ None
    before_it n k e h = let r = later l.indent 0 l ls n e in fit_none k (r.broke.earlier k (omega (arith, r.is, h)))

    passed : breaks_from l.indent 0 (l ∷ ls) ≡ none → (k : ℕ) → k < length (l ∷ ls) → breach_at (l ∷ ls) k ≡ None
    passed e k h = fit_none k (all_fit l.indent 0 l ls e k h)

-- ---- a loaded listing

module _ (tape : Text) (tokens lines : List ℕ) (reading : Reading) (n : ℕ) where
  abbrev listing : Listing
  listing = listing_read tape tape tokens reading lines

  get_none : (ls : List ℕ) (k : ℕ) → length ls ≤ k → get (listing_read tape tape tokens reading ls) k ≡ none
  get_none [] k h = refl
  get_none (l ∷ ls) zero h = absurd (omega arith)
  get_none (l ∷ ls) (suc k) h = get_none ls k (omega arith)

  get_line : (ls : List ℕ) (k : ℕ) → k < length ls → get (listing_read tape tape tokens reading ls) k ≡ some (line_read tape tape tokens reading (get_or ls k 0))
  get_line [] k h = absurd (omega arith)
  get_line (l ∷ ls) zero h = refl
  get_line (l ∷ ls) (suc k) h = get_line ls k (omega arith)

  pub nothing_there : length lines ≤ n → Some breach.NoLine ≡ breach_at listing n
  unfolding breach_at
  nothing_there h = sym (ap (breach_in listing n) (get_none lines n h))

  first_is : (ls : List ℕ) → n < length ls → first_indent (listing_read tape tape tokens reading ls) ≡ indent_of (get_or ls 0 0)
  unfolding first_indent
  first_is [] h = absurd (omega arith)
  first_is (l ∷ ls) h = refl

  module _ (h : n < length lines) where
    tests_there : breach_at listing n
        ≡ first_breach ((breach.Indent, eqb (indent_of (get_or lines n 0)) (indent_of (get_or lines 0 0)))
        ∷ tests_of (eqb (suc n) (length lines)) (tokens_of tape tape (part_of tokens (get_or lines n 0))))
    tests_there = told_at listing n _ (get_line lines n h) ∙ rw (length-map, first_is lines h) refl

    module _ {i j : ℕ} (ei : i ≡ indent_of (get_or lines n 0)) (ej : j ≡ indent_of (get_or lines 0 0)) where
      pub indent_breaks : (i ≡ j → ⊥) → Some breach.Indent ≡ breach_at listing n
      unfolding first_breach
      indent_breaks d = sym (tests_there ∙ rw (← ei, ← ej, ne_eqb i j d) refl)

      pub tokens_break : (i ≡ j) → {us : List ℕ} → us ≡ part_of tokens (get_or lines n 0) → {last : Bool} → last ≡ eqb (n + 1) (length lines)
          → {r : std.Option Breach} → r ≡ first_breach (tests_of last (tokens_of tape tape us)) → r ≡ breach_at listing n
      unfolding first_breach
      tokens_break d {us} eu {last} el {r} er = er ∙ same ∙ sym (tests_there ∙ holds)
        where
          words : List ℕ
          words = part_of tokens (get_or lines n 0)

          same : first_breach (tests_of last (tokens_of tape tape us)) ≡ first_breach (tests_of (eqb (suc n) (length lines)) (tokens_of tape tape words))
          same = rw (el, eu, add-one n) refl

          holds : first_breach ((breach.Indent, eqb (indent_of (get_or lines n 0)) (indent_of (get_or lines 0 0))) ∷ tests_of (eqb (suc n) (length lines)) (tokens_of tape tape words))
              ≡ first_breach (tests_of (eqb (suc n) (length lines)) (tokens_of tape tape words))
          holds = rw (← ei, ← ej, d, eq-eqb j j refl) refl
