-- M-104: without the parts setting nothing changes (`without_parts`), with it one test is added (`adds-lowest`), so that an attempt fails exactly
-- where it fails without it or its single use is another part (`parts_exactly`), and under it every attempt that succeeds keeps to the parts
-- (`parts-kept`), and so does every attempt of every run (`run_keeps-parts`). Assumes nothing.
use Prim.Native.Nat.{ℕ, zero, suc, ◌≤◌, ◌<◌}
use mathlib.Core.Path.{◌≡◌, refl, sym, ◌∙◌, subst, ap}
use mathlib.Core.Bool.{Bool, true, false, false≢true}
use mathlib.Core.List.{List, [], ◌∷◌, ◌++◌, flatten}
use mathlib.Core.Option.{Option, none, some}
use lib.Dec.{eqb, ltb}
use lib.ListN.{drop}
use borrow.Author.Tests.{eq-eqb, lt-ltb, ltb-false}
use Rattle.reference.specs.Control.{not, ◌and◌, ◌or◌, when◌then◌else◌, let_some◌else◌then◌}
use Rattle.reference.specs.Lists.{any, position, get, is_some, remove, modify}
use Rattle.reference.specs.Text.{Text, ◌≟◌}
use Rattle.reference.specs.Listing.{Token, Line, Listing, ◌at◌}
use Rattle.reference.specs.Names.{Fam, family, fam_of, of_family}
use Rattle.reference.specs.Rules.{Rules, volatile}
use Rattle.reference.specs.Shapes.{has_kw, call_at, assignment}
use Rattle.reference.specs.Life.{Labels, dead_after}
use Rattle.reference.specs.Join.{Uses, gather, is_narrow, bad_use, written_from, propagate_constant, use_width, use_lowest, other_part, is_compound}
use Rattle.reference.specs.Join.{replaceable, is_bracketed, replacement, replace_at, rewrite_one, use_from, join_at, join_one, lone_number, try_at}
use Rattle.reference.specs.Run.{Attempt, rounds_from, limit, after_attempts, run, attempts_of}
use Rattle.reference.specs.Demand.{Attempts, over, failed, succeeded, Rounds, enough, ended, again}
use Rattle.reference.specs.Parts.{SamePart, Joins, to_several, to_one, PartsKept, EachKept, with_parts, is_other_use, goes_to_all, joins_other_part}
use Rattle.reference.proofs.Cases.{by-if, by-some, both, neither, not-true, not-false, same_number, some_inj, none-some, if_some, unless-some, bind-some}
use Rattle.reference.proofs.Rounds.{rounds-taken}

-- ---- the test

second : {a b : Bool} → a ≡ true → (a and b) ≡ false → b ≡ false
unfolding ◌and◌
second {a = true} t e = e
second {a = false} t e = absurd (false≢true t)

module _ (f : Fam) (toks : List Token) (pos : ℕ) where
  -- WITHOUT THE SETTING the test is the Rust's
  pub without_parts : replaceable false f toks pos
      ≡ (not ((ltb (use_width toks pos) 32 or ltb f.width 32) and not (eqb (use_width toks pos) f.width))
      and not (is_compound toks pos)
      and not (written_from f.name toks))
  unfolding replaceable not ◌and◌
  without_parts = refl

  -- WITH IT one test is added, the lowest bit: the widths below 32 bits are asked to be equal anyway
  pub adds-lowest : replaceable true f toks pos
      ≡ (replaceable false f toks pos and not (ltb (use_width toks pos) 32 and not (eqb (use_lowest toks pos) f.lowest)))
  unfolding replaceable other_part not ◌and◌ ◌or◌
  adds-lowest = go (ltb (use_width toks pos) 32) (ltb f.width 32) (eqb (use_width toks pos) f.width) (eqb (use_lowest toks pos) f.lowest) (is_compound toks pos) (written_from f.name toks)
    where
      go : (u w e l c x : Bool) → (not ((u or w) and not e) and not (true and (u and (not e or not l))) and not c and not x)
          ≡ ((not ((u or w) and not e) and not (false and (u and (not e or not l))) and not c and not x) and not (u and not l))
      go true true true true true x = refl
      go true true true true false true = refl
      go true true true true false false = refl
      go true true true false true x = refl
      go true true true false false true = refl
      go true true true false false false = refl
      go true true false l c x = refl
      go true false true true true x = refl
      go true false true true false true = refl
      go true false true true false false = refl
      go true false true false true x = refl
      go true false true false false true = refl
      go true false true false false false = refl
      go true false false l c x = refl
      go false true true l true x = refl
      go false true true l false true = refl
      go false true true l false false = refl
      go false true false l c x = refl
      go false false e l true x = refl
      go false false e l false true = refl
      go false false e l false false = refl

  no_other : replaceable true f toks pos ≡ true → other_part f toks pos ≡ false
  unfolding replaceable
  no_other e = second refl (not-true (both (both e).1).0)

-- a use that is no other part is the same part
module _ (f : Fam) (toks : List Token) (pos : ℕ) {t : Token} (e : get toks pos ≡ some t) (no : other_part f toks pos ≡ false) (g : Fam) (eg : family t.text ≡ some g)
    (narrow : g.width < 32) where
  width_is : use_width toks pos ≡ g.width
  unfolding use_width let_some◌else◌then◌
  width_is = rw (e, eg)

  lowest_is : use_lowest toks pos ≡ g.lowest
  unfolding use_lowest let_some◌else◌then◌
  lowest_is = rw (e, eg)

  fit : (not (eqb (use_width toks pos) f.width) or not (eqb (use_lowest toks pos) f.lowest)) ≡ false
  unfolding other_part
  fit = second (rw width_is (lt-ltb g.width 32 narrow)) no

  same_width : g.width ≡ f.width
  same_width = sym width_is ∙ same_number (not-false (neither fit).0)

  same_lowest : g.lowest ≡ f.lowest
  same_lowest = sym lowest_is ∙ same_number (not-false (neither fit).1)

same_part : (f : Fam) (toks : List Token) (pos : ℕ) {t : Token} → get toks pos ≡ some t → replaceable true f toks pos ≡ true → SamePart f t
same_part f toks pos e r =
    record { width = λ g eg h. same_width f toks pos e (no_other f toks pos r) g eg h; lowest = λ g eg h. same_lowest f toks pos e (no_other f toks pos r) g eg h }

-- ---- which attempts fail

module _ {A B : Type 0} where
  -- a search that goes on only where p fails
  bind_unless : (o : Option A) (k k' : A → Option B) (p : A → Bool) → ((a : A) → k a ≡ (when p a then none else k' a))
      → (let_some o else none then k) ≡ (when (let_some o else false then p) then none else (let_some o else none then k'))
  unfolding let_some◌else◌then◌ when◌then◌else◌
  bind_unless none k k' p h = refl
  bind_unless (some a) k k' p h = h a

module _ {B : Type 0} where
  swap : (g q : Bool) (o : Option B) → (when g then none else (when q then none else o)) ≡ (when q then none else (when g then none else o))
  unfolding when◌then◌else◌
  swap true true o = refl
  swap true false o = refl
  swap false true o = refl
  swap false false o = refl

  unless_test : (q b : Bool) (o : Option B) → (when (when q then false else b) then o else none) ≡ (when q then none else (when b then o else none))
  unfolding when◌then◌else◌
  unless_test true b o = refl
  unless_test false b o = refl

parts_test : (f : Fam) (toks : List Token) (pos : ℕ) → replaceable true f toks pos ≡ (when other_part f toks pos then false else replaceable false f toks pos)
unfolding replaceable not ◌and◌ when◌then◌else◌
parts_test f toks pos =
    go (not ((ltb (use_width toks pos) 32 or ltb f.width 32) and not (eqb (use_width toks pos) f.width))) (other_part f toks pos)
    (not (is_compound toks pos) and not (written_from f.name toks))
  where
    go : (a o c : Bool) → (a and not (true and o) and c) ≡ (when o then false else (a and not (false and o) and c))
    go true true c = refl
    go true false c = refl
    go false true c = refl
    go false false c = refl

module _ (rules : Rules) where
  abbrev with_it : Rules
  with_it = with_parts true rules

  abbrev without : Rules
  without = with_parts false rules

  same_rewrite : (pos : ℕ) (expr : List Token) (l : Line) → rewrite_one with_it pos expr l ≡ rewrite_one without pos expr l
  unfolding rewrite_one replace_at replacement is_bracketed
  same_rewrite pos expr l = refl

  module _ (lines : Listing) (i : ℕ) (f : Fam) (expr : List Token) (labels : Labels) (vs : List Text) where
    join_at-parts : (j : ℕ) → join_at with_it lines i f expr labels vs j ≡ (when is_other_use lines f j then none else join_at without lines i f expr labels vs j)
    unfolding join_at is_other_use
    join_at-parts j =
        let toks = (lines at j).tokens in
        let asked : ℕ → Bool → (Line → Line) → Option Listing = λ pos b g. when b then some (remove i (modify j g lines)) else none in
        ap (λ (o : Option Listing). when has_kw (lines at j) "while" or not (dead_after lines j f.name (lines at i).indent labels i vs) then none else o)
        (bind_unless (position (of_family f.name) toks)
        (λ pos. asked pos (replaceable true f toks pos) (rewrite_one with_it pos expr))
        (λ pos. asked pos (replaceable false f toks pos) (rewrite_one without pos expr))
        (λ pos. other_part f toks pos)
        (λ pos.
        (λ k. asked pos (parts_test f toks pos k) (λ l. same_rewrite pos expr l k))
        ∙ unless_test (other_part f toks pos) (replaceable false f toks pos) (some (remove i (modify j (rewrite_one without pos expr) lines)))))
        ∙ swap _ (is_other_use lines f j) _

    join_one-parts : join_one with_it lines i f expr labels vs
        ≡ (when (let_some (use_from (lines at i).indent f.name expr (is_some (call_at (lines at i))) vs (suc i) (drop (suc i) lines)) else false then λ j.
        is_other_use lines f j)
        then none
        else join_one without lines i f expr labels vs)
    unfolding join_one
    join_one-parts = bind_unless _ _ _ _ join_at-parts

  -- a lone number that goes to all its uses, or the single use
  tried : (g lone : Bool) (c : Option Listing) (q : Bool) (j j' : Option Listing) → j ≡ (when q then none else j')
      → (when g then none else (let_some (when lone then c else none) else j then λ l. some l))
      ≡ (when not (lone and is_some c) and q then none else (when g then none else (let_some (when lone then c else none) else j' then λ l. some l)))
  unfolding let_some◌else◌then◌ when◌then◌else◌ not ◌and◌
  tried g true none q j j' h = ap (λ (o : Option Listing). when g then none else o) h ∙ swap g q j'
  tried g true (some l) q j j' h = refl
  tried g false c q j j' h = ap (λ (o : Option Listing). when g then none else o) h ∙ swap g q j'

  -- WITH THE SETTING an attempt fails exactly where it fails without it or its single use is another part, "changing nothing"; "all else goes as without it"
  pub parts_exactly : (lines : Listing) (i : ℕ) (labels : Labels) (addressed : List Text)
      → try_at with_it lines i labels addressed
      ≡ (when joins_other_part rules lines i labels then none else try_at without lines i labels addressed)
  unfolding try_at joins_other_part goes_to_all
  parts_exactly lines i labels addressed =
      bind_unless (assignment (lines at i)) _ _ _
      (λ a. bind_unless (family a.lhs.text) _ _ _
      (λ f. tried _ (lone_number a.expr) _ _ _ _ (join_one-parts lines i f a.expr labels (volatile rules))))

-- ---- uses of a lone number

module _ {A : Type 0} (p : A → Bool) where
  none_at : (xs : List A) → any p xs ≡ false → (n : ℕ) {x : A} → get xs n ≡ some x → p x ≡ false
  none_at [] e n h = absurd (none-some h)
  none_at (y ∷ ys) e zero h = subst (λ (z : A). p z ≡ false) (some_inj h) (neither e).0
  none_at (y ∷ ys) e (suc n) h = none_at ys (neither e).1 n h

  found_at : (xs : List A) (i : ℕ) → position p xs ≡ some i → (x : A) × (get xs i ≡ some x)
  found_at [] i e = absurd (none-some e)
  found_at (x ∷ xs) i e =
      by-if (λ (o : Option ℕ). o ≡ some i → (y : A) × (get (x ∷ xs) i ≡ some y))
      (λ t h. subst (λ (n : ℕ). (y : A) × (get (x ∷ xs) n ≡ some y)) (some_inj h) (x, refl))
      (λ t h. (let r = bind-some h in subst (λ (n : ℕ). (y : A) × (get (x ∷ xs) n ≡ some y)) (some_inj r.2) (found_at xs r.0 r.1)))
      e

same_refl : (a : Text) → (a ≟ a) ≡ true
unfolding ◌and◌
same_refl [] = refl
same_refl (x ∷ xs) = rw (eq-eqb x x refl, same_refl xs)

wide : (fam : Text) (toks : List Token) → bad_use fam toks ≡ false → (k : ℕ) (t : Token) (g : Fam) → get toks k ≡ some t → fam_of t ≡ some g → g.name ≡ fam → 32 ≤ g.width
unfolding bad_use is_narrow let_some◌else◌then◌
wide fam toks e k t g h eg n =
    let q : is_narrow fam t ≡ false = none_at (is_narrow fam) toks (neither (neither e).1).1 k h in
    ltb-false g.width 32 (second (rw n (same_refl fam)) (rw eg at q))

-- ---- the attempt

module _ (rules : Rules) (lines : Listing) (i : ℕ) (f : Fam) (expr : List Token) (labels : Labels) (vs : List Text) {lines' : Listing} where
  several : propagate_constant rules.edition lines i f.name expr labels vs ≡ some lines' → Joins rules lines i f expr lines'
  unfolding propagate_constant
  several e =
      let u = unless-some (unless-some e).1 in
      let found : Uses = gather (lines at i).indent f.name vs (suc i) (drop (suc i) lines) i in
      to_several found.uses (sym (some_inj u.1))
      (λ n j k t g hn hk eg en. wide f.name (lines at j).tokens (none_at (λ j. bad_use f.name (lines at j).tokens) found.uses u.0 n hn) k t g hk eg en)

  one : rules.parts ≡ true → join_one rules lines i f expr labels vs ≡ some lines' → Joins rules lines i f expr lines'
  unfolding join_one join_at
  one on e =
      let u = bind-some e in
      let p = bind-some (unless-some u.2).1 in
      let r = if_some p.2 in
      let t = found_at (of_family f.name) (lines at u.0).tokens p.0 p.1 in
      to_one u.0 p.0 t.0 t.1 (sym (some_inj r.1)) (same_part f (lines at u.0).tokens p.0 t.1
      (subst (λ (b : Bool). replaceable b f (lines at u.0).tokens p.0 ≡ true) on r.0))

-- UNDER THE PARTS SETTING no attempt joins a use below 32 bits whose width or lowest bit is not the assigned register's
pub parts-kept : (rules : Rules) (lines : Listing) (i : ℕ) (labels : Labels) (addressed : List Text) {lines' : Listing} → rules.parts ≡ true
    → try_at rules lines i labels addressed ≡ some lines' → PartsKept rules lines i lines'
unfolding try_at
parts-kept rules lines i labels addressed {lines'} on e =
    let a = bind-some e in
    let f = bind-some a.2 in
    let kept : Joins rules lines i f.0 a.0.expr lines' → PartsKept rules lines i lines' =
    λ j. record { to = a.0; assigned = f.0; is_assignment = a.1; is_register = f.1; joined = j } in
    by-some (λ (o : Option Listing). o ≡ some lines' → PartsKept rules lines i lines')
    (λ n u. kept (one rules lines i f.0 a.0.expr labels (volatile rules) on u))
    (λ l h u. kept (several rules lines i f.0 a.0.expr labels (volatile rules) (if_some (h ∙ u)).1))
    (unless-some f.2).1

-- ---- the run

module _ (rules : Rules) where
  kept_append : (lines : Listing) (xs ys : List Attempt) → EachKept rules lines xs → EachKept rules (after_attempts lines xs) ys
      → EachKept rules lines (xs ++ ys)
  unfolding after_attempts
  kept_append lines [] ys h k = k
  kept_append lines (x ∷ xs) ys h k = (h.0, kept_append x.left xs ys h.1 k)

module _ (rules : Rules) (on : rules.parts ≡ true) where
  round_kept : {addressed : List Text} {i : ℕ} {lines : Listing} {labels : Labels} {round : List Attempt}
      → Attempts rules addressed i lines labels round → EachKept rules lines round
  round_kept (over e) = tt
  round_kept (failed lt e more) = (λ t. absurd (false≢true t), round_kept more)
  round_kept {addressed = addressed} {i = i} {lines = lines} {labels = labels} (succeeded lt e more) =
      (λ t. parts-kept rules lines i labels addressed on e, round_kept more)

  rounds-kept : {n : ℕ} {lines : Listing} {rounds : List (List Attempt)} → Rounds rules n lines rounds
      → EachKept rules lines (flatten rounds)
  unfolding flatten
  rounds-kept enough = tt
  rounds-kept {lines = lines} (ended {round = round} r e) = kept_append rules lines round [] (round_kept r) tt
  rounds-kept {lines = lines} (again {round = round} {more = more} r e rs) =
      kept_append rules lines round (flatten more) (round_kept r) (rounds-kept rs)

  -- UNDER THE PARTS SETTING no attempt of any run joins a use below 32 bits whose width or lowest bit is not the assigned register's
  pub run_keeps-parts : (lines : Listing) → EachKept rules lines (attempts_of (run rules lines))
  unfolding run attempts_of
  run_keeps-parts lines = rounds-kept (rounds-taken rules (limit rules lines) lines)
