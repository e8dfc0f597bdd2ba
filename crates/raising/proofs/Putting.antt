-- What a step puts on the lines that a value reaches: line by line, as the code does, it is what the definitions put there. Assumes nothing.
use Prim.Native.Nat.{ℕ, zero, suc, ◌+◌, ◌≤◌, ◌<◌}
use native.Mathlib.Omega.{arith}
use mathlib.Core.Path.{◌≡◌, refl, sym, ap, ◌∙◌}
use mathlib.Core.Bool.{Bool, true, false, not as flip}
use mathlib.Core.List.{List, [], ◌∷◌}
use lib.Dec.{eqb, ltb}
use lib.ListN.{length, get_or, set, take, drop, length-set, length-map}
use lib.Seq.{ext_get_or, get_or-set_same, get_or-set_other, get_or-take, length-take-le}
use borrow.Author.Tests.{lt-ltb, le-ltb, eq-eqb, ne_eqb}
use native.Mathlib.Decide.{dec_lt}
use mathlib.Core.Logic.{by_cases}
use Rattle.std.specs.Prelude as std
use Rattle.std.specs.Prelude.{filter, cond}
use Rattle.std.proofs.lemmas.List.{drop_all}
use Rattle.reference.specs.Control.{not, ◌and◌, ◌or◌, when◌then◌else◌}
use Rattle.reference.specs.Lists.{any, is_empty}
use Rattle.reference.specs.Text.{Text}
use Rattle.reference.specs.Listing.{Listing, ◌at◌}
use Rattle.reference.specs.Rules.{Rules, volatile}
use Rattle.laws.proofs.Scans.{by_test, or_last, not_same}
use Rattle.cautions.specs.Kinds.{odd_form, still_read, handed_over, ◌∪◌, ◌given◌}
use Rattle.cautions.specs.Forms.{ways, is_dark, reads, reached_from}
use Rattle.cautions.specs.Joins.{is_handed, none_yet, put, dark_in, stale_in, spread}
use Rattle.cautions.specs.Cautions.{both}
use Rattle.cautions.proofs.Sets.{or_assoc}
use Rattle.cautions.proofs.Handed.{length-put}
use Rattle.std.specs.Int.Bits.{or_comm, or_zero_r}
use Rattle.cautions.proofs.Stepping.{both_none, both_put}
use Rattle.flow.specs.Reaching.{is_stale, reached_table}
use Rattle.flow.proofs.Spreading.{reached_is, reached_more, reached_at, filter_at, some_filter}
use Rattle.flow.proofs.Spreading as spreading
use Rattle.usefacts.specs.declared.parts.Before.{Before}
use Rattle.raising.specs.declared.spreading.Others.{Others}
use Rattle.raising.specs.Spread.{is_noted, Notes, far, others, dark, stale, marked, far_kinds}
use Rattle.raising.specs.Others.{is_other, dark_at, stale_at, with_kinds, Marked}

-- ---- tests

pub either_first : {a : Bool} (b : Bool) → a ≡ true → a ≡ (a or b)
unfolding ◌or◌
either_first b t = rw t refl

pub either_second : {a : Bool} (b : Bool) → a ≡ false → b ≡ (a or b)
unfolding ◌or◌
either_second b f = rw f refl

pub ruleset eithers = (either_first, either_second)

pub either_here : {a : Bool} (b : Bool) → a ≡ true → true ≡ (a or b)
unfolding ◌or◌
either_here b t = rw t refl

pub either_then : {a b : Bool} {x : Bool} → a ≡ false → x ≡ b → x ≡ (a or b)
unfolding ◌or◌
either_then f ex = rw f ex

pub ruleset one_of = (either_here, either_then)

module _ {s : Bool} (m : Bool) where
  pub other_unseen : s ≡ false → false ≡ (s and m)
  unfolding ◌and◌
  other_unseen f = rw f refl

module _ {s : Bool} (t : s ≡ true) (k i : ℕ) (m : Bool) where
  pub other_self : k ≡ i → false ≡ (s and not (eqb k i or m))
  unfolding ◌and◌ ◌or◌ not
  other_self e = rw (t, eq-eqb k i e) refl

  pub other_noted : (k ≡ i → ⊥) → {x : Bool} → x ≡ m → flip x ≡ (s and not (eqb k i or m))
  unfolding ◌and◌ ◌or◌
  other_noted n ex = rw (t, ne_eqb k i n) (not_same ex)

-- ---- one line

module _ (ls : Listing) (i : ℕ) (parts : List (std.Option Before)) (seen : List Bool) (k : ℕ) (h : k < length ls) {b : Bool}
    (eb : b ≡ (get_or seen k false and not (eqb k i or is_noted parts k))) where
  regroup : (s x d : Bool) → (s and ((true and x) and d)) ≡ ((s and x) and d)
  unfolding ◌and◌
  regroup true x d = refl
  regroup false x d = refl

  dark_is : (get_or seen k false and dark_at ls i parts k) ≡ (b and is_dark ls (ways ls) k)
  unfolding dark_at is_other
  dark_is = rw (lt-ltb k (length ls) h, eb) (regroup (get_or seen k false) (not (eqb k i or is_noted parts k)) (is_dark ls (ways ls) k))

  stale_is : (fam : Text) → (get_or seen k false and stale_at ls i parts fam k) ≡ (b and is_stale ls fam k)
  unfolding stale_at is_other
  stale_is fam = rw (lt-ltb k (length ls) h, eb) (regroup (get_or seen k false) (not (eqb k i or is_noted parts k)) (is_stale ls fam k))

  module _ (f : b ≡ false) where
    pub no_dark : false ≡ (get_or seen k false and dark_at ls i parts k)
    unfolding ◌and◌
    no_dark = rw (dark_is, f) refl

    pub no_stale : (fam : Text) → false ≡ (get_or seen k false and stale_at ls i parts fam k)
    unfolding ◌and◌
    no_stale fam = rw (stale_is fam, f) refl

  module _ (t : b ≡ true) {d : Bool} (ed : d ≡ is_dark ls (ways ls) k) where
    pub dark_here : d ≡ (get_or seen k false and dark_at ls i parts k)
    unfolding ◌and◌
    dark_here = rw (dark_is, t) ed

    pub dark_not_stale : d ≡ true → (fam : Text) → false ≡ (get_or seen k false and stale_at ls i parts fam k)
    unfolding ◌and◌ not is_stale
    dark_not_stale e fam = rw (stale_is fam, t, ← ed, e) refl

    pub stale_here : d ≡ false → (fam : Text) {x : Bool} → x ≡ reads fam (ls at k).tokens → x ≡ (get_or seen k false and stale_at ls i parts fam k)
    unfolding ◌and◌ not is_stale
    stale_here e fam ex = rw (stale_is fam, t, ← ed, e) ex

-- ---- what was found

module _ (P : ℕ → Bool) (seen : List Bool) where
  -- what the places from k on answer
  abbrev pub from_on : ℕ → Bool
  from_on k = any P (reached_from k (drop k seen))

  pub found_more : (k : ℕ) → k < length seen → (f : Bool) {f' o r : Bool} → f' ≡ (f or o) → o ≡ (get_or seen k false and P k) → (f or from_on k) ≡ r
      → (f' or from_on (k + 1)) ≡ r
  unfolding ◌or◌ ◌and◌ when◌then◌else◌
  found_more k h f ef eo v = rw (ef, eo) (go f (get_or seen k false) (P k) refl refl (rw (reached_more seen k h) at v))
    where
      go : {r : Bool} (f s p : Bool) → get_or seen k false ≡ s → P k ≡ p
          → (f or any P (when get_or seen k false then k ∷ reached_from (k + 1) (drop (k + 1) seen) else reached_from (k + 1) (drop (k + 1) seen))) ≡ r
          → ((f or (s and p)) or from_on (k + 1)) ≡ r
      go true s p es ep v = v
      go false true true es ep v = (let w = rw (es, ep) at v in w)
      go false true false es ep v = (let w = rw (es, ep) at v in w)
      go false false p es ep v = (let w = rw es at v in w)

  -- a place that is not reached
  pub found_skipped : (k : ℕ) → k < length seen → get_or seen k false ≡ false → (f : Bool) {r : Bool} → (f or from_on k) ≡ r → (f or from_on (k + 1)) ≡ r
  unfolding when◌then◌else◌
  found_skipped k h e f v = (let w = rw (reached_more seen k h, e) at v in w)

  pub found_end : (n k : ℕ) → length seen ≡ suc n → P n ≡ false → n ≤ k → k ≤ n → (f : Bool) {r : Bool} → (f or from_on k) ≡ r → f ≡ r
  unfolding reached_from ◌or◌ when◌then◌else◌
  found_end n k long e h i f v =
      let same : k ≡ n = omega arith in
      let w = rw (same, reached_more seen n (omega (arith, long)), drop_all (n + 1) seen (omega (arith, long))) at v in
      by_test (get_or seen n false) (λ t. (let u = rw (t, e, or_last f) at w in u)) (λ g. (let u = rw (g, or_last f) at w in u))

-- no line stands behind the last
pub none_dark : (ls : Listing) (i : ℕ) (parts : List (std.Option Before)) → dark_at ls i parts (length ls) ≡ false
unfolding dark_at is_other ◌and◌
none_dark ls i parts = rw (le-ltb (length ls) (length ls) (omega arith)) refl

pub none_stale : (ls : Listing) (i : ℕ) (parts : List (std.Option Before)) (fam : Text) → stale_at ls i parts fam (length ls) ≡ false
unfolding stale_at is_other ◌and◌
none_stale ls i parts fam = rw (le-ltb (length ls) (length ls) (omega arith)) refl

-- ---- the sets, line by line

module _ (ls : Listing) (i : ℕ) (fam : Text) (parts : List (std.Option Before)) (seen : List Bool) (sets : List ℕ) where
  -- the first k sets are done, the others are as they were
  pub record Marking (k : ℕ) (now : List ℕ) : Type 0 where
    pub done : Marked ls i fam parts seen k sets now
    pub rest : (j : ℕ) → k ≤ j → get_or now j 0 ≡ get_or sets j 0

  pub marking_begun : Marking 0 sets
  marking_begun = record { done = record { long = refl; each = λ k h. absurd (omega arith) }; rest = λ j h. refl }

  pub marking_done : {n k : ℕ} {now : List ℕ} → k ≡ n → Marking k now → Marked ls i fam parts seen n sets now
  marking_done e m = record { long = m.done.long; each = λ j b. m.done.each j (omega (arith, e)) }

  pub marking_more : (k : ℕ) (now : List ℕ) → k < length sets → Marking k now → {o : Others} → o.dark ≡ (get_or seen k false and dark_at ls i parts k)
      → o.stale ≡ (get_or seen k false and stale_at ls i parts fam k) → {s : ℕ} → s ≡ with_kinds (get_or now k 0) o → Marking (k + 1) (set now k s)
  unfolding with_kinds
  marking_more k now h m {o} ed es {s} e = record {
    done = record {
      long = length-set now k s ∙ m.done.long;
      each = λ j b. by_cases (dec_lt j k)
          (λ l. get_or-set_other now k j s 0 (λ q. omega (arith, q)) ∙ m.done.each j l)
          (λ n. let q : j ≡ k = omega (arith, n) in
          rw q (get_or-set_same now k s 0 (omega (arith, m.done.long)) ∙ e ∙ rw (ed, es, m.rest k (omega arith)) refl));
    };
    rest = λ j b. get_or-set_other now k j s 0 (λ q. omega (arith, q)) ∙ m.rest j (omega arith);
  }

  -- a place that is not reached
  pub marking_skipped : (k : ℕ) (now : List ℕ) → get_or seen k false ≡ false → Marking k now → Marking (k + 1) now
  unfolding ◌and◌ ◌given◌ when◌then◌else◌
  marking_skipped k now e m = record {
    done = record {
      long = m.done.long;
      each = λ j b. by_cases (dec_lt j k) (λ l. m.done.each j l)
          (λ n. let q : j ≡ k = omega (arith, n) in rw q (m.rest k (omega arith) ∙ sym (rw (e, or_zero_r (get_or sets k 0)) (or_zero_r (get_or sets k 0)))));
    };
    rest = λ j b. m.rest j (omega arith);
  }

-- ---- by the definitions

put_at : (s : ℕ) (js : List ℕ) (p : ℕ) (ts : List ℕ) (k : ℕ) → k < length ts → get_or (put s js p ts) k 0 ≡ get_or ts k 0 ∪ s given any (eqb (p + k)) js
unfolding put
put_at s js p [] k h = absurd (omega arith)
put_at s js p (t ∷ ts) zero h = ap (λ (n : ℕ). t ∪ s given any (eqb n) js) (omega arith)
put_at s js p (t ∷ ts) (suc k) h = put_at s js (suc p) ts k (omega arith) ∙ ap (λ (n : ℕ). get_or ts k 0 ∪ s given any (eqb n) js) (omega arith)

pub put_here : (s : ℕ) (js : List ℕ) (ts : List ℕ) (k : ℕ) → k < length ts → get_or (put s js 0 ts) k 0 ≡ get_or ts k 0 ∪ s given any (eqb k) js
put_here s js ts k h = put_at s js 0 ts k h ∙ ap (λ (n : ℕ). get_or ts k 0 ∪ s given any (eqb n) js) (omega arith)

-- filters that agree
pub filter_same : (p q : ℕ → Bool) (xs : List ℕ) → ((k : ℕ) → p k ≡ q k) → filter p xs ≡ filter q xs
filter_same p q [] e = refl
filter_same p q (x ∷ xs) e = rw (e x, filter_same p q xs e) refl

any_same : (p q : ℕ → Bool) (xs : List ℕ) → ((k : ℕ) → p k ≡ q k) → any p xs ≡ any q xs
any_same p q [] e = refl
any_same p q (x ∷ xs) e = rw (e x, any_same p q xs e) refl

any_filter : (p q : ℕ → Bool) (xs : List ℕ) → any q (filter p xs) ≡ any (λ k. p k and q k) xs
unfolding ◌or◌ ◌and◌ when◌then◌else◌
any_filter p q [] = refl
any_filter p q (x ∷ xs) = go (p x) (any_filter p q xs)
  where
    go : (b : Bool) → any q (filter p xs) ≡ any (λ k. p k and q k) xs
        → any q (cond b (x ∷ filter p xs) (filter p xs)) ≡ ((b and q x) or any (λ k. p k and q k) xs)
    go true e = rw e refl
    go false e = e

module _ (rules : Rules) (ls : Listing) (i : ℕ) (fam : Text) (parts : List (std.Option Before)) (into : List ℕ) (notes : Notes ls parts into) where
  same_other : (k : ℕ) → (ltb k (length ls) and not (any (eqb k) (i ∷ into))) ≡ is_other ls i parts k
  unfolding is_other ◌and◌
  same_other k = by_test (ltb k (length ls)) (λ t. rw (t, notes k t) refl) (λ f. rw f refl)

  module _ (seen : List Bool) (i_in : i < length ls) (table : seen ≡ reached_table ls i fam (volatile rules)) where
    far_is : far rules ls i fam into ≡ reached_from 0 seen
    far_is = reached_is ls i fam (volatile rules) i_in ∙ ap (reached_from 0) (sym table)

    others_is : others rules ls i fam into ≡ filter (is_other ls i parts) (reached_from 0 seen)
    others_is = rw far_is (filter_same _ (is_other ls i parts) (reached_from 0 seen) same_other)

    pub dark_found : not (is_empty (dark rules ls i fam into)) ≡ any (dark_at ls i parts) (reached_from 0 seen)
    unfolding dark_in dark_at
    dark_found = some_filter (is_dark ls (ways ls)) (others rules ls i fam into)
        ∙ ap (any (is_dark ls (ways ls))) others_is ∙ any_filter (is_other ls i parts) (is_dark ls (ways ls)) (reached_from 0 seen)

    pub stale_found : not (is_empty (stale rules ls i fam into)) ≡ any (stale_at ls i parts fam) (reached_from 0 seen)
    unfolding stale_in stale_at is_stale
    stale_found = some_filter (is_stale ls fam) (others rules ls i fam into)
        ∙ ap (any (is_stale ls fam)) others_is ∙ any_filter (is_other ls i parts) (is_stale ls fam) (reached_from 0 seen)

    in_others : (k : ℕ) → any (eqb k) (others rules ls i fam into) ≡ (get_or seen k false and is_other ls i parts k)
    in_others k = ap (any (eqb k)) others_is ∙ filter_at (is_other ls i parts) (reached_from 0 seen) k ∙ ap (λ (b : Bool). b and is_other ls i parts k) (reached_at seen k)

    and_assoc : (a b c : Bool) → ((a and b) and c) ≡ (a and (b and c))
    unfolding ◌and◌
    and_assoc true b c = refl
    and_assoc false b c = refl

    in_dark : (k : ℕ) → any (eqb k) (dark rules ls i fam into) ≡ (get_or seen k false and dark_at ls i parts k)
    unfolding dark_at
    in_dark k = spreading.dark_at rules ls i fam (far rules ls i fam into) (others rules ls i fam into) k
        ∙ ap (λ (b : Bool). b and is_dark ls (ways ls) k) (in_others k) ∙ and_assoc (get_or seen k false) (is_other ls i parts k) (is_dark ls (ways ls) k)

    in_stale : (k : ℕ) → any (eqb k) (stale rules ls i fam into) ≡ (get_or seen k false and stale_at ls i parts fam k)
    unfolding stale_at
    in_stale k = spreading.stale_at rules ls i fam (far rules ls i fam into) (others rules ls i fam into) k
        ∙ ap (λ (b : Bool). b and is_stale ls fam k) (in_others k) ∙ and_assoc (get_or seen k false) (is_other ls i parts k) (is_stale ls fam k)

    -- the sets that the code leaves
    pub marked_is : (n : ℕ) (sets sets' : List ℕ) → n ≤ length sets → Marked ls i fam parts seen n sets sets' → take n sets' ≡ marked rules ls i fam into (take n sets)
    unfolding marked
    marked_is n sets sets' h m =
        let d : List ℕ = dark rules ls i fam into in
        let s : List ℕ = stale rules ls i fam into in
        let long : length (take n sets) ≡ n = length-take-le n sets h in
        let long' : length (take n sets') ≡ n = length-take-le n sets' (omega (arith, m.long)) in
        let inner : List ℕ = put still_read s 0 (take n sets) in
        let inner_long : length inner ≡ n = length-put still_read s 0 (take n sets) ∙ long in
        ext_get_or 0 (take n sets') (put odd_form d 0 inner) (long' ∙ sym inner_long ∙ sym (length-put odd_form d 0 inner))
        (λ k l.
        let b : k < n = omega (arith, long') in
        get_or-take n sets' k 0 b ∙ m.each k b
        ∙ sym (put_here odd_form d inner k (omega (arith, inner_long)) ∙ rw (put_here still_read s (take n sets) k (omega (arith, long)), in_dark k, in_stale k, get_or-take n sets k 0 b) refl))

    -- the kinds that it answers
    pub kinds_are : {d s h x : Bool} (again : Bool) → d ≡ any (dark_at ls i parts) (reached_from 0 seen) → s ≡ any (stale_at ls i parts fam) (reached_from 0 seen)
        → x ≡ is_dark ls (ways ls) i → h ≡ is_handed rules ls fam (reached_from 0 seen)
        → (odd_form given (d or x)) ∪ (still_read given (s or again)) ∪ (handed_over given h) ≡ far_kinds rules ls i fam into again
    unfolding far_kinds
    kinds_are again ed es ex eh = rw (dark_found, stale_found, far_is, ← ed, ← es, ← ex, ← eh) refl

-- ---- and on the sets that are there

-- both are put, whichever is first
put_turn : (a b : ℕ) (xs ys : List ℕ) (p : ℕ) (ts : List ℕ) → put a xs p (put b ys p ts) ≡ put b ys p (put a xs p ts)
unfolding put
put_turn a b xs ys p [] = refl
put_turn a b xs ys p (t ∷ ts) = λ k. turn (a given any (eqb p) xs) (b given any (eqb p) ys) k ∷ put_turn a b xs ys (suc p) ts k
  where
    turn : (x y : ℕ) → (t ∪ y) ∪ x ≡ (t ∪ x) ∪ y
    turn x y = or_assoc t y x ∙ ap (λ (z : ℕ). t ∪ z) (or_comm y x) ∙ sym (or_assoc t x y)

module _ (rules : Rules) (ls : Listing) (i : ℕ) (fam : Text) (s : ℕ) (into : List ℕ) (again : Bool) (sets : List ℕ) (long : length sets ≡ length ls) where
  pub both_spread : both sets (spread rules ls (ways ls) i fam (far rules ls i fam into) s into again)
      ≡ put (s ∪ far_kinds rules ls i fam into again) into 0 (marked rules ls i fam into sets)
  unfolding spread far_kinds marked
  both_spread =
      let d : List ℕ = dark rules ls i fam into in
      let l : List ℕ = stale rules ls i fam into in
      let own : ℕ = s ∪ far_kinds rules ls i fam into again in
      let none : length (none_yet ls) ≡ length ls = length-map ls (λ l. 0) in
      let first : List ℕ = put own into 0 (none_yet ls) in
      let first_long : length first ≡ length ls = length-put own into 0 (none_yet ls) ∙ none in
      let second : List ℕ = put still_read l 0 first in
      let second_long : length second ≡ length ls = length-put still_read l 0 first ∙ first_long in
      both_put odd_form d 0 sets second (long ∙ sym second_long)
      ∙ ap (put odd_form d 0)
      (both_put still_read l 0 sets first (long ∙ sym first_long)
      ∙ ap (put still_read l 0) (both_put own into 0 sets (none_yet ls) (long ∙ sym none) ∙ ap (put own into 0) (both_none sets ls long))
      ∙ put_turn still_read own l into 0 sets)
      ∙ put_turn odd_form own d into 0 (put still_read l 0 sets)
