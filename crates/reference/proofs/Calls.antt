-- No call mark is lost: not by a substitution for a register, by `merge`, by `fold`, where an assignment is cut to its expression, or where `rax = ` is
-- cut off a call. Assumes nothing.
use Prim.Native.Nat.{ℕ, suc, ◌+◌, ◌≤◌}
use native.Mathlib.Omega.{arith}
use native.Mathlib.Nat.{le_refl}
use mathlib.Core.Path.{◌≡◌, refl, subst⁻¹}
use mathlib.Core.Bool.{Bool, true, false, false≢true}
use mathlib.Core.List.{List, [], ◌∷◌, ◌++◌, drop_last, append_assoc}
use mathlib.Core.Option.{Option, none, some}
use lib.Dec.{eqb}
use lib.ListN.{drop, take}
use Rattle.reference.specs.Control.{◌and◌, ◌or◌, when◌then◌else◌}
use Rattle.reference.specs.Lists.{position, is_empty}
use Rattle.reference.specs.Text.{Text, bytes, starts_with, ends_with}
use Rattle.reference.specs.Listing.{Token, token, is, Register, Number, Keyword, Symbol, Punct}
use Rattle.reference.specs.Names.{of_family}
use Rattle.reference.specs.Numbers.{merge_into, merge, fold_at, fold}
use Rattle.reference.specs.Rules.{Rules}
use Rattle.reference.specs.Shapes.{Assignment, right_side}
use Rattle.reference.specs.Join.{replacement, text_before, text_after, replace_at, substitute, lone_number}
use Rattle.reference.specs.Claim.{Callee, one_if, opens, is_call_mark, calls_in}
use Rattle.reference.proofs.Cases.{by-if, by-some, both, either, neither, pair, fails, true-false, same_number, zero_if, one_le}
use Rattle.reference.proofs.Shapes.{other_kind, joins-other, family-register, starts_as, Folds, folds, Cut, gone, short, later, Assigning, assigning, split_at}

-- ---- single tokens

-- more is marked where more is open
mark_le : (c : Callee) (t : Token) (o o' : Bool) → (o ≡ true → o' ≡ true) → one_if (is_call_mark c t o) ≤ one_if (is_call_mark c t o')
unfolding is_call_mark
mark_le none t o o' h = le_refl _
mark_le (some name) t o o' h = one_le _ _ (λ e. pair (both e).0 (pair (both (both e).1).0 (h (both (both e).1).1)))

-- a token that is no mark is passed over
pub skip : (c : Callee) (t : Token) (ts : List Token) → is_call_mark c t (opens ts) ≡ false → calls_in c (t ∷ ts) ≡ calls_in c ts
unfolding calls_in
skip c t ts e = omega (arith, zero_if e)

no_mark : (c : Callee) (t : Token) (o : Bool) → is Symbol t ≡ false → is Keyword t ≡ false → is_call_mark c t o ≡ false
unfolding is_call_mark
no_mark none t o hs hk = fails (λ e. true-false (both e).0 hk)
no_mark (some name) t o hs hk = fails (λ e. true-false (both e).0 hs)

-- a register, a number or a punctuation is no mark
silent : (c : Callee) (k : ℕ) (t : Token) (ts : List Token) → eqb k Symbol ≡ false → eqb k Keyword ≡ false → is k t ≡ true → calls_in c (t ∷ ts) ≡ calls_in c ts
silent c k t ts hs hk e = skip c t ts (no_mark c t (opens ts) (other_kind k Symbol t hs e) (other_kind k Keyword t hk e))

-- a register or a number opens nothing
closed : (k : ℕ) (t : Token) (ts : List Token) → eqb k Punct ≡ false → is k t ≡ true → opens (t ∷ ts) ≡ false
unfolding opens
closed k t ts h e = fails (λ u. true-false (both u).0 (other_kind k Punct t h e))

more : (c : Callee) (t : Token) (ts : List Token) → calls_in c ts ≤ calls_in c (t ∷ ts)
unfolding calls_in
more c t ts = omega arith

-- ---- lists: `ys` has the is-call-mark of `xs`, and those of `es` besides

pub record Keeps (es xs ys : List Token) : Type 0 where
  pub opened : opens xs ≡ true → opens ys ≡ true
  pub called : (c : Callee) → calls_in c xs + calls_in c es ≤ calls_in c ys

keeps_refl : (xs : List Token) → Keeps [] xs xs
unfolding calls_in
keeps_refl xs = record { opened = λ e. e; called = λ c. omega arith }

keeps_trans : {es xs ys zs : List Token} → Keeps es xs ys → Keeps [] ys zs → Keeps es xs zs
unfolding calls_in
keeps_trans p q = record { opened = λ e. q.opened (p.opened e); called = λ c. omega (arith, p.called c, q.called c) }

opens_same : (t : Token) (ts us : List Token) → opens (t ∷ ts) ≡ true → opens (t ∷ us) ≡ true
unfolding opens
opens_same t ts us e = e

keeps_cons : (t : Token) {es xs ys : List Token} → Keeps es xs ys → Keeps es (t ∷ xs) (t ∷ ys)
unfolding calls_in
keeps_cons t {xs = xs} {ys = ys} p =
    record { opened = opens_same t xs ys; called = λ c. omega (arith, p.called c, mark_le c t (opens xs) (opens ys) p.opened) }

keeps_behind : (pre : List Token) {es xs ys : List Token} → Keeps es xs ys → Keeps es (pre ++ xs) (pre ++ ys)
keeps_behind [] p = p
keeps_behind (t ∷ pre) p = keeps_cons t (keeps_behind pre p)

append_calls : (c : Callee) (xs ys : List Token) → calls_in c xs + calls_in c ys ≤ calls_in c (xs ++ ys)
unfolding calls_in opens
append_calls c [] ys = omega arith
append_calls c (x ∷ xs) ys = omega (arith, append_calls c xs ys, mark_le c x (opens xs) (opens (xs ++ ys)) (opens_append xs))
  where
    opens_append : (xs : List Token) → opens xs ≡ true → opens (xs ++ ys) ≡ true
    opens_append [] e = absurd (false≢true e)
    opens_append (t ∷ ts) e = opens_same t ts (ts ++ ys) e

-- anything in place of a register
instead : (es : List Token) (r : Token) (xs : List Token) → is Register r ≡ true → Keeps es (r ∷ xs) (es ++ xs)
instead es r xs h =
    record {
      opened = λ e. absurd (true-false e (closed Register r xs refl h));
      called = λ c. omega (arith, silent c Register r xs refl refl h, append_calls c es xs);
    }

-- ---- merging

starts_with_append : (s u t : Text) → starts_with s t ≡ true → starts_with (s ++ u) t ≡ true
starts_with_append s u [] e = refl
starts_with_append [] u (y ∷ ys) e = absurd (false≢true e)
starts_with_append (x ∷ xs) u (y ∷ ys) e = pair (both e).0 (starts_with_append xs u ys (both e).1)

into_keeps : (last : Token) (ts : List Token) → Keeps [] (last ∷ ts) (merge_into last ts)
unfolding merge_into opens is calls_in
into_keeps last [] = keeps_refl _
into_keeps last (t ∷ ts) =
    by-if (λ (r : List Token). Keeps [] (last ∷ t ∷ ts) r)
    (λ e.
    (let s = joins-other Symbol last t refl refl e in
    let k = joins-other Keyword last t refl refl e in
    let joined : Token = token last.kind (last.text ++ t.text) in
    keeps_trans
    (record {
      opened = λ h. pair (both h).0 (starts_with_append last.text t.text (bytes "(") (both h).1);
      called = λ c. omega (
        arith,
        skip c last (t ∷ ts) (no_mark c last _ s.0 k.0),
        skip c t ts (no_mark c t _ s.1 k.1),
        more c joined ts,
      );
    })
    (into_keeps joined ts)))
    (λ e. keeps_cons last (into_keeps t ts))

-- ---- folding

sign-mark : (c : Callee) (a b d n : Token) (rest : List Token) → Folds a b d n → is_call_mark c b (opens (d ∷ rest)) ≡ false
unfolding is_call_mark
sign-mark none a b d n rest h =
    fails (λ e. true-false (both e).1
    (either (starts_with b.text (bytes "((void") ≡ false) h.sign
    (starts_as b.text (bytes " + ") (bytes "((void") false (unfold ◌and◌ in refl))
    (starts_as b.text (bytes " - ") (bytes "((void") false (unfold ◌and◌ in refl))))
sign-mark (some name) a b d n rest h = fails (λ e. true-false (both (both e).1).1 (closed Number d rest refl h.last))

fold_at_keeps : (edition : ℕ) (before : Option Token) (a : Token) (ts : List Token) → Keeps [] (a ∷ ts) (fold_at edition before a ts)
unfolding fold_at calls_in
fold_at_keeps edition before a [] = keeps_refl _
fold_at_keeps edition before a (b ∷ []) = keeps_refl _
fold_at_keeps edition before a (b ∷ d ∷ rest) =
    by-some (λ (r : List Token). Keeps [] (a ∷ b ∷ d ∷ rest) r)
    (λ e. keeps_cons a (fold_at_keeps edition (some a) b (d ∷ rest)))
    (λ n e.
    (let h = folds edition before a b d rest n e in
    keeps_trans
    (record {
      opened = λ o. absurd (true-false o (closed Number a (b ∷ d ∷ rest) refl h.first));
      called = λ c. omega (
        arith,
        silent c Number a (b ∷ d ∷ rest) refl refl h.first,
        skip c b (d ∷ rest) (sign-mark c a b d n rest h),
        silent c Number d rest refl refl h.last,
        more c n rest,
      );
    })
    (fold_at_keeps edition before n rest)))

pub fold-merge_keeps : (edition : ℕ) (ts : List Token) → Keeps [] ts (fold edition (merge ts))
unfolding fold merge
fold-merge_keeps edition [] = keeps_refl []
fold-merge_keeps edition (t ∷ ts) = keeps_trans (into_keeps t ts) (go (merge_into t ts))
  where
    go : (ts : List Token) → Keeps [] ts (fold edition ts)
    go [] = keeps_refl []
    go (a ∷ rest) = fold_at_keeps edition none a rest

-- ---- an assignment cut to its expression

-- what a text begins with it still begins with once its last `;` is off, if that does not end so itself
starts_short : (s p : Text) → starts_with s p ≡ true → ends_with s (bytes ";") ≡ true → ends_with p (bytes ";") ≡ false → starts_with (drop_last s) p ≡ true
starts_short s [] h e n = refl
starts_short [] (y ∷ ys) h e n = absurd (false≢true h)
starts_short (x ∷ []) (y ∷ []) h e n =
    absurd (true-false e (subst⁻¹ (λ (z : ℕ). ends_with (z ∷ []) (bytes ";") ≡ false) (same_number {m = x} {n = y} (both h).0) n))
starts_short (x ∷ []) (y ∷ z ∷ zs) h e n = absurd (false≢true (both h).1)
starts_short (x ∷ w ∷ xs) (y ∷ ys) h e n =
    pair (both h).0 (starts_short (w ∷ xs) ys (both h).1
    (either (ends_with (w ∷ xs) (bytes ";") ≡ true) e (λ u. absurd (false≢true (both u).1)) (λ u. u)) (neither n).1)

-- the is-call-mark of a last token without its `;`
short-mark : (c : Callee) (t : Token) → ends_with t.text (bytes ";") ≡ true → is_call_mark c t (opens []) ≡ true
    → is_call_mark c (token t.kind (drop_last t.text)) (opens []) ≡ true
unfolding is_call_mark opens is
short-mark none t e h = pair (both h).0 (starts_short t.text (bytes "((void") (both h).1 e (unfold ◌or◌ ◌and◌ in refl))
short-mark (some name) t e h = absurd (false≢true (both (both h).1).1)

short_open : (t : Token) → ends_with t.text (bytes ";") ≡ true → opens (t ∷ []) ≡ true → opens (token t.kind (drop_last t.text) ∷ []) ≡ true
unfolding opens is
short_open t e h = pair (both h).0 (starts_short t.text (bytes "(") (both h).1 e (unfold ◌or◌ ◌and◌ in refl))

empty-mark : (c : Callee) (k : ℕ) → is_call_mark c (token k []) (opens []) ≡ true → ⊥
unfolding is_call_mark opens
empty-mark none k h = false≢true (both h).1
empty-mark (some name) k h = false≢true (both (both h).1).1

cut_keeps : {ts r : List Token} → Cut ts r → Keeps [] ts r
unfolding calls_in opens
cut_keeps (gone {t = t} e z) =
    record {
      opened = λ h. absurd (false≢true (both (rw z at (short_open t e h))).1);
      called = λ c. omega (arith, skip c t [] (fails (λ h. empty-mark c t.kind (rw z at (short-mark c t e h)))));
    }
cut_keeps (short {t = t} e) = record { opened = short_open t e; called = λ c. omega (arith, one_le _ _ (short-mark c t e)) }
cut_keeps (later t c) = keeps_cons t (cut_keeps c)

-- an assignment's is-call-mark are its expression's
pub assigned-calls : {ts : List Token} {a : Assignment} → Assigning ts a → (c : Callee) → calls_in c ts ≤ calls_in c a.expr
unfolding right_side calls_in
assigned-calls (assigning {lhs = lhs} {eq = eq} {rest = rest} r p s cut) c =
    omega (
      arith,
      silent c Register lhs (eq ∷ rest) refl refl r,
      silent c Punct eq rest refl refl p,
      append_calls c (when is_empty (drop 3 eq.text) then [] else token Punct (drop 3 eq.text) ∷ []) rest,
      (cut_keeps cut).called c,
    )

pub number_silent : (c : Callee) (expr : List Token) → lone_number expr ≡ true → calls_in c expr ≡ 0
unfolding lone_number calls_in
number_silent c [] e = absurd (false≢true e)
number_silent c (x ∷ []) e = silent c Number x [] refl refl e
number_silent c (x ∷ y ∷ ys) e = absurd (false≢true e)

-- ---- uses replaced

keeps_less : {es es' xs ys : List Token} → ((c : Callee) → calls_in c es' ≤ calls_in c es) → Keeps es xs ys → Keeps es' xs ys
keeps_less h k = record { opened = k.opened; called = λ c. omega (arith, h c, k.called c) }

replacement-calls : (rules : Rules) (expr : List Token) (before after : Text) (c : Callee) → calls_in c expr ≤ calls_in c (replacement rules expr before after)
unfolding replacement
replacement-calls rules expr before after c =
    by-if (λ (r : List Token). calls_in c expr ≤ calls_in c r)
    (λ e. omega (arith, more c (token Punct (bytes "(")) (expr ++ (token Punct (bytes ")") ∷ [])), append_calls c expr (token Punct (bytes ")") ∷ [])))
    (λ e. le_refl _)

-- the line of the use keeps its is-call-mark and takes those of the expression
pub replaced_keeps : (rules : Rules) (fam : Text) (toks expr : List Token) (pos : ℕ) → position (of_family fam) toks ≡ some pos → Keeps expr toks (replace_at rules toks pos expr)
unfolding replace_at
replaced_keeps rules fam toks expr pos h =
    let s = split_at (of_family fam) toks pos h in
    let new : List Token = replacement rules expr (text_before toks pos) (text_after toks pos) in
    keeps_less (replacement-calls rules expr (text_before toks pos) (text_after toks pos))
    (subst⁻¹ (λ (l : List Token). Keeps new l (take pos toks ++ new ++ drop (suc pos) toks)) s.2
    (rw append_assoc (keeps_behind (take pos toks) (instead new s.0 (drop (suc pos) toks) (family-register fam s.0 s.1)))))

pub substitute_keeps : (fam : Text) (expr ts : List Token) → Keeps [] ts (substitute fam expr ts)
unfolding substitute calls_in
substitute_keeps fam expr [] = keeps_refl []
substitute_keeps fam expr (t ∷ ts) =
    let rest = keeps_cons t (substitute_keeps fam expr ts) in
    by-if (λ (r : List Token). Keeps [] (t ∷ ts) r)
    (λ e. keeps_trans rest (keeps_less (λ c. omega arith) (instead expr t (substitute fam expr ts) (family-register fam t e))))
    (λ e. rest)
