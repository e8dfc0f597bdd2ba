-- The closer and the opener of a block: as the loops find them, and as the definitions do by depths. Assumes nothing.
use Prim.Native.Nat.{ℕ, suc, pred, ◌+◌, ◌-◌, ◌≤◌, ◌<◌}
use native.Mathlib.Omega.{arith}
use native.Mathlib.Numerals.{add-one}
use native.Mathlib.Decide.{dec_lt}
use mathlib.Core.Path.{◌≡◌, refl, sym, ap, ◌∙◌}
use mathlib.Core.Logic.{by_cases}
use mathlib.Core.Bool.{Bool, true, false}
use mathlib.Core.List.{List, [], ◌∷◌, ◌++◌, map, reverse}
use mathlib.Core.Option.{Option, none, some}
use lib.Dec.{eqb, ltb}
use lib.ListN.{length, take, drop, get_or, length-map}
use borrow.Author.Tests.{lt-ltb, le-ltb, eq-eqb, ne_eqb}
use Rattle.std.proofs.lemmas.List.{drop_more, drop_all, take_more, reverse-append, length-reverse, length-take-le}
use Rattle.std.proofs.Common.{eqb-true}
use Rattle.laws.proofs.Scans.{if-true, if-false}
use Rattle.reference.specs.Control.{when◌then◌else◌, let_some◌else◌then◌}
use Rattle.reference.specs.Text.{Text}
use Rattle.cautions.specs.Forms.{depth_behind, closer_from, opener_from}
use Rattle.flow.specs.declared.lineforms.LineForm.{LineForm}
use Rattle.flow.specs.Spelling.{in_front, unmatched}
use Rattle.flow.specs.Blocks.{no_form, closer_by, opener_by}

-- ---- the loops

module _ (rs : List LineForm) (d m : ℕ) (h : m < length rs) {o : Option ℕ} (inv : closer_by d m (drop m rs) ≡ o) where
  at_line : (when ltb d (get_or rs m no_form).closes then some m else closer_by (d - (get_or rs m no_form).closes + (get_or rs m no_form).opens) (m + 1) (drop (m + 1) rs)) ≡ o
  unfolding closer_by
  at_line = rw (add-one m) (rw (drop_more rs m no_form h, add-one m) at inv)

  pub closer_here : d < (get_or rs m no_form).closes → some m ≡ o
  closer_here k = rw (if-true _ _ (lt-ltb _ _ k)) at at_line

  pub closer_further : (get_or rs m no_form).closes ≤ d → closer_by (d - (get_or rs m no_form).closes + (get_or rs m no_form).opens) (m + 1) (drop (m + 1) rs) ≡ o
  closer_further k = rw (if-false _ _ (le-ltb _ _ k)) at at_line

pub closer_end : (rs : List LineForm) (d m : ℕ) → length rs ≤ m → {o : Option ℕ} → closer_by d m (drop m rs) ≡ o → none ≡ o
unfolding closer_by
closer_end rs d m h inv = rw (drop_all m rs h) at inv

-- upwards: n lines are left
reverse_more : (rs : List LineForm) (n : ℕ) → n < length rs → reverse (take (n + 1) rs) ≡ get_or rs n no_form ∷ reverse (take n rs)
reverse_more rs n h = ap reverse (take_more rs n no_form h) ∙ reverse-append (take n rs) (get_or rs n no_form ∷ [])

module _ (rs : List LineForm) (d k j : ℕ) (h : j < k) (b : k < length rs) {o : Option ℕ} (inv : opener_by d (reverse (take (k - j) rs)) ≡ o) where
  up_line : (when ltb d (get_or rs (k - 1 - j) no_form).opens then some (k - 1 - j)
      else opener_by (d - (get_or rs (k - 1 - j) no_form).opens + (get_or rs (k - 1 - j) no_form).closes) (reverse (take (k - (j + 1)) rs))) ≡ o
  unfolding opener_by
  up_line =
      let e : k - j ≡ (k - 1 - j) + 1 = omega arith in
      let f : k - (j + 1) ≡ k - 1 - j = omega arith in
      let g : length (reverse (take (k - 1 - j) rs)) ≡ k - 1 - j = length-reverse (take (k - 1 - j) rs) ∙ length-take-le (k - 1 - j) rs (omega arith) in
      rw f (rw (e, reverse_more rs (k - 1 - j) (omega arith), g) at inv)

  pub opener_here : d < (get_or rs (k - 1 - j) no_form).opens → some (k - 1 - j) ≡ o
  opener_here l = rw (if-true _ _ (lt-ltb _ _ l)) at up_line

  pub opener_further : (get_or rs (k - 1 - j) no_form).opens ≤ d
      → opener_by (d - (get_or rs (k - 1 - j) no_form).opens + (get_or rs (k - 1 - j) no_form).closes) (reverse (take (k - (j + 1)) rs)) ≡ o
  opener_further l = rw (if-false _ _ (le-ltb _ _ l)) at up_line

pub opener_end : (rs : List LineForm) (d k j : ℕ) → k ≤ j → {o : Option ℕ} → opener_by d (reverse (take (k - j) rs)) ≡ o → none ≡ o
unfolding opener_by
opener_end rs d k j h inv = let e : k - j ≡ 0 = omega arith in rw e at inv

-- ---- depths

-- the depth behind so many `}` and `{` without a partner, which begin d deep
at_depth : ℕ → ℕ × ℕ → Option ℕ
at_depth d p = when ltb d p.0 then none else some (d - p.0 + p.1)

leaves : (d c o : ℕ) → d < c → at_depth d (c, o) ≡ none
unfolding at_depth
leaves d c o h = if-true _ _ (lt-ltb d c h)

stays : (d c o : ℕ) → c ≤ d → at_depth d (c, o) ≡ some (d - c + o)
unfolding at_depth
stays d c o h = if-false _ _ (le-ltb d c h)

-- a `{` in front, a `}` in front
inward : (d c o : ℕ) → at_depth (suc d) (c, o) ≡ at_depth d (in_front 123 (c, o))
unfolding in_front when◌then◌else◌
inward d c o =
    by_cases (dec_lt 0 c)
    (λ p. rw (ne_eqb c 0 (λ e. omega arith))
    (by_cases (dec_lt (suc d) c)
    (λ l. leaves (suc d) c o l ∙ sym (leaves d (pred c) o (omega arith)))
    (λ l. stays (suc d) c o (omega arith) ∙ ap some (omega arith) ∙ sym (stays d (pred c) o (omega arith)))))
    (λ p. let e : c ≡ 0 = omega arith in rw e (stays (suc d) 0 o (omega arith) ∙ ap some (omega arith) ∙ sym (stays d 0 (suc o) (omega arith))))

outward : (d c o : ℕ) → (when eqb d 0 then none else at_depth (pred d) (c, o)) ≡ at_depth d (suc c, o)
outward d c o =
    by_cases (dec_lt 0 d)
    (λ p. if-false _ _ (ne_eqb d 0 (λ e. omega arith))
    ∙ by_cases (dec_lt (pred d) c)
    (λ l. leaves (pred d) c o l ∙ sym (leaves d (suc c) o (omega arith)))
    (λ l. stays (pred d) c o (omega arith) ∙ ap some (omega arith) ∙ sym (stays d (suc c) o (omega arith))))
    (λ p. if-true _ _ (eq-eqb d 0 (omega arith)) ∙ sym (leaves d (suc c) o (omega arith)))

-- the definitions' depth behind a form, by its braces without a partner
depth_of : (s : Text) (d : ℕ) → depth_behind 123 125 d s ≡ at_depth d (unmatched s)
unfolding depth_behind unmatched in_front when◌then◌else◌
depth_of [] d = sym (stays d 0 0 (omega arith) ∙ ap some (omega arith))
depth_of (c ∷ cs) d = go (eqb c 123) (eqb c 125) (depth_of cs)
  where
    go : (x y : Bool) → ((d : ℕ) → depth_behind 123 125 d cs ≡ at_depth d (unmatched cs))
        → (when x then depth_behind 123 125 (suc d) cs else when y then (when eqb d 0 then none else depth_behind 123 125 (pred d) cs) else depth_behind 123 125 d cs)
        ≡ at_depth d (when x then (when eqb (unmatched cs).0 0 then (0, suc (unmatched cs).1) else (pred (unmatched cs).0, (unmatched cs).1))
        else when y then (suc (unmatched cs).0, (unmatched cs).1) else unmatched cs)
    go true y ih = ih (suc d) ∙ inward d (unmatched cs).0 (unmatched cs).1
    go false true ih = rw (ih (pred d)) (outward d (unmatched cs).0 (unmatched cs).1)
    go false false ih = ih d

-- ---- the same upwards

depth_append : (i o d : ℕ) (s t : Text) → depth_behind i o d (s ++ t) ≡ (let_some (depth_behind i o d s) else none then λ e. depth_behind i o e t)
unfolding depth_behind let_some◌else◌then◌ when◌then◌else◌
depth_append i o d [] t = refl
depth_append i o d (c ∷ cs) t = go (eqb c i) (eqb c o) (eqb d 0) (λ e. depth_append i o e cs t)
  where
    go : (x y z : Bool) → ((e : ℕ) → depth_behind i o e (cs ++ t) ≡ (let_some (depth_behind i o e cs) else none then λ e. depth_behind i o e t))
        → (when x then depth_behind i o (suc d) (cs ++ t) else when y then (when z then none else depth_behind i o (pred d) (cs ++ t)) else depth_behind i o d (cs ++ t))
        ≡ (let_some (when x then depth_behind i o (suc d) cs else when y then (when z then none else depth_behind i o (pred d) cs) else depth_behind i o d cs) else none then λ e. depth_behind i o e t)
    go true y z h = h (suc d)
    go false true true h = refl
    go false true false h = h (pred d)
    go false false z h = h d

swap : ℕ × ℕ → ℕ × ℕ
swap p = (p.1, p.0)

-- behind what is left d deep by so many `{` and `}`, an opening and a closing brace
below_open : (d a b : ℕ) → (let_some (at_depth d (b, a)) else none then λ (e : ℕ). when eqb e 0 then none else some (pred e)) ≡ at_depth d (swap (in_front 123 (a, b)))
unfolding in_front when◌then◌else◌ let_some◌else◌then◌ swap
below_open d a b =
    by_cases (dec_lt 0 a)
    (λ p. rw (ne_eqb a 0 (λ e. omega arith))
    (by_cases (dec_lt d b)
    (λ l. rw (leaves d b a l, leaves d b (pred a) l) refl)
    (λ l. rw (stays d b a (omega arith), stays d b (pred a) (omega arith), ne_eqb (d - b + a) 0 (λ e. omega arith)) (ap some (omega arith)))))
    (λ p. let e : a ≡ 0 = omega arith in
    rw e (by_cases (dec_lt d b)
    (λ l. rw (leaves d b 0 l, leaves d (suc b) 0 (omega arith)) refl)
    (λ l. by_cases (dec_lt b d)
    (λ m. rw (stays d b 0 (omega arith), stays d (suc b) 0 (omega arith), ne_eqb (d - b + 0) 0 (λ e. omega arith)) (ap some (omega arith)))
    (λ m. rw (stays d b 0 (omega arith), leaves d (suc b) 0 (omega arith), eq-eqb (d - b + 0) 0 (omega arith)) refl))))

below_close : (d a b : ℕ) → (let_some (at_depth d (b, a)) else none then λ (e : ℕ). some (suc e)) ≡ at_depth d (b, suc a)
unfolding let_some◌else◌then◌
below_close d a b =
    by_cases (dec_lt d b)
    (λ l. rw (leaves d b a l, leaves d b (suc a) l) refl)
    (λ l. rw (stays d b a (omega arith), stays d b (suc a) (omega arith)) (ap some (omega arith)))

below_none : (d a b : ℕ) → (let_some (at_depth d (b, a)) else none then λ (e : ℕ). some e) ≡ at_depth d (b, a)
unfolding let_some◌else◌then◌
below_none d a b = go (at_depth d (b, a))
  where
    go : (o : Option ℕ) → (let_some o else none then λ (e : ℕ). some e) ≡ o
    go none = refl
    go (some e) = refl

below : (c d a b : ℕ) → (let_some (at_depth d (b, a)) else none then λ e. depth_behind 125 123 e (c ∷ [])) ≡ at_depth d (swap (in_front c (a, b)))
unfolding depth_behind in_front when◌then◌else◌ swap
below c d a b = go (eqb c 123) (eqb c 125) refl refl
  where
    go : (x y : Bool) → eqb c 123 ≡ x → eqb c 125 ≡ y
        → (let_some (at_depth d (b, a)) else none then λ e. depth_behind 125 123 e (c ∷ [])) ≡ at_depth d (swap (in_front c (a, b)))
    go true y e f = rw (eqb-true c 123 e) (below_open d a b)
    go false true e f = rw (eqb-true c 125 f) (below_close d a b)
    go false false e f = rw (e, f) (below_none d a b)

depth_back : (s : Text) (d : ℕ) → depth_behind 125 123 d (reverse s) ≡ at_depth d (swap (unmatched s))
unfolding depth_behind unmatched swap
depth_back [] d = sym (stays d 0 0 (omega arith) ∙ ap some (omega arith))
depth_back (c ∷ cs) d =
    ap (depth_behind 125 123 d) (reverse-append (c ∷ []) cs) ∙ depth_append 125 123 d (reverse cs) (c ∷ [])
    ∙ rw (depth_back cs d) (below c d (unmatched cs).0 (unmatched cs).1)

-- ---- the definitions' closer and opener

abbrev pub braces_of : LineForm → ℕ × ℕ
braces_of r = (r.closes, r.opens)

pub closer_is : (rs : List LineForm) (fs : List Text) (d m : ℕ) → map braces_of rs ≡ map unmatched fs → closer_by d m rs ≡ closer_from d m fs
unfolding closer_by closer_from let_some◌else◌then◌
closer_is [] [] d m e = refl
closer_is [] (f ∷ fs) d m e = absurd (cc)
closer_is (r ∷ rs) [] d m e = absurd (cc)
closer_is (r ∷ rs) (f ∷ fs) d m e =
    let a : braces_of r ≡ unmatched f = cc in
    let b : map braces_of rs ≡ map unmatched fs = cc in
    rw (depth_of f d, ← a)
    (by_cases (dec_lt d r.closes)
    (λ l. rw (leaves d r.closes r.opens l) (if-true _ _ (lt-ltb d r.closes l)))
    (λ l. rw (stays d r.closes r.opens (omega arith)) (if-false _ _ (le-ltb d r.closes (omega arith)) ∙ closer_is rs fs (d - r.closes + r.opens) (suc m) b)))

same_length : (rs : List LineForm) (fs : List Text) → map braces_of rs ≡ map unmatched fs → length rs ≡ length fs
same_length rs fs e = sym (length-map rs braces_of) ∙ ap length e ∙ length-map fs unmatched

pub opener_is : (rs : List LineForm) (fs : List Text) (d : ℕ) → map braces_of rs ≡ map unmatched fs → opener_by d rs ≡ opener_from d fs
unfolding opener_by opener_from let_some◌else◌then◌ swap
opener_is [] [] d e = refl
opener_is [] (f ∷ fs) d e = absurd (cc)
opener_is (r ∷ rs) [] d e = absurd (cc)
opener_is (r ∷ rs) (f ∷ fs) d e =
    let a : braces_of r ≡ unmatched f = cc in
    let b : map braces_of rs ≡ map unmatched fs = cc in
    rw (depth_back f d, ← a)
    (by_cases (dec_lt d r.opens)
    (λ l. rw (leaves d r.opens r.closes l, same_length rs fs b) (if-true _ _ (lt-ltb d r.opens l)))
    (λ l. rw (stays d r.opens r.closes (omega arith)) (if-false _ _ (le-ltb d r.opens (omega arith)) ∙ opener_is rs fs (d - r.opens + r.closes) b)))

-- ---- what is found stands in the listing

pub closer_below : (rs : List LineForm) (d m : ℕ) {c : ℕ} → closer_by d m rs ≡ some c → (m ≤ c) × (c < m + length rs)
unfolding closer_by
closer_below [] d m e = absurd (cc)
closer_below (r ∷ rs) d m {c} e =
    by_cases (dec_lt d r.closes)
    (λ l.
    let f : ◌≡◌ {A = Option ℕ} (some m) (some c) = sym (if-true _ _ (lt-ltb d r.closes l)) ∙ e in
    let g : m ≡ c = cc in
    (omega arith, omega arith))
    (λ l.
    let f = sym (if-false _ _ (le-ltb d r.closes (omega arith))) ∙ e in
    let h = closer_below rs (d - r.closes + r.opens) (suc m) f in
    (omega (arith, h.0), omega (arith, h.1)))

pub opener_below : (rs : List LineForm) (d : ℕ) {c : ℕ} → opener_by d rs ≡ some c → c < length rs
unfolding opener_by
opener_below [] d e = absurd (cc)
opener_below (r ∷ rs) d {c} e =
    by_cases (dec_lt d r.opens)
    (λ l.
    let f : ◌≡◌ {A = Option ℕ} (some (length rs)) (some c) = sym (if-true _ _ (lt-ltb d r.opens l)) ∙ e in
    let g : length rs ≡ c = cc in
    omega arith)
    (λ l.
    let f = sym (if-false _ _ (le-ltb d r.opens (omega arith))) ∙ e in
    let h = opener_below rs (d - r.opens + r.closes) f in
    omega (arith, h))
