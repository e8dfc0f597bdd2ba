-- What a join leaves of the tables: the lines behind line i move up, those that it rewrote get its kinds and those of line i, and have new forms. Assumes
-- nothing.
use Prim.Native.Nat.{ℕ, zero, suc, ◌+◌, ◌-◌, ◌≤◌, ◌<◌}
use native.Mathlib.Omega.{arith}
use native.Mathlib.Nat.{zero-add}
use native.Mathlib.Decide.{dec_lt}
use mathlib.Core.Logic.{by_cases}
use mathlib.Core.Path.{◌≡◌, refl, sym, ap, ◌∙◌, subst}
use mathlib.Core.Bool.{Bool, true, false}
use mathlib.Core.List.{List, [], ◌∷◌, ◌++◌, map, reverse}
use mathlib.Core.Option.{Option, some}
use lib.Dec.{eqb, ltb}
use lib.ListN.{length, get_or, drop, take, get_or-append, length-append}
use lib.Seq.{ext_get_or, length-take-le, get_or-append_right}
use Rattle.std.specs.List.{copy_within}
use Rattle.std.specs.Int.Bits.{or_zero_r}
use Rattle.std.proofs.lemmas.Nat.{or_comm}
use Rattle.std.proofs.lemmas.List.{get_or-take, get_or-drop, length-drop}
use Rattle.laws.proofs.Scans.{by_test}
use Rattle.reference.specs.Control.{when◌then◌else◌}
use Rattle.reference.specs.Lists.{any, remove}
use Rattle.reference.specs.Listing.{Line, Listing, ◌at◌, blank}
use Rattle.reference.specs.Rules.{Rules, volatile}
use Rattle.reference.specs.Run.{success}
use Rattle.joining.specs.Plan.{Plan, act, acted_line, map_from}
use Rattle.joining.proofs.Acting.{early, line_kept}
use Rattle.joining.proofs.Indexed.{getD_map_from, length-map-from}
use Rattle.cautions.specs.Kinds.{◌∪◌, ◌given◌}
use Rattle.cautions.specs.Joins.{put}
use Rattle.cautions.specs.Cautions.{both, hand_on}
use Rattle.cautions.proofs.Sets.{or_assoc}
use Rattle.cautions.specs.Forms.{ways}
use Rattle.cautions.specs.Joins.{join_cautions, spread, uses_cautions}
use Rattle.reference.specs.Control.{let_some◌else◌then◌}
use Rattle.reference.specs.Listing.{Token}
use Rattle.reference.specs.Names.{Fam}
use Rattle.flow.specs.Blocks.{no_form}
use Rattle.raising.specs.Steps.{into}
use Rattle.raising.specs.Spread.{far}
use native.Mathlib.Numerals.{add-one}
use native.Mathlib.Nat.{le_refl}
use borrow.Author.Tests.{lt-ltb}
use Rattle.reference.proofs.Lines.{length-remove}
use Rattle.reference.specs.Text.{bytes, starts_with}
use Rattle.reference.specs.Marks.{moved}
use Rattle.cautions.specs.Kinds.{union, odd_form, overwritten, slot}
use Rattle.cautions.specs.Joins.{is_odd, past_call, line_cautions}
use Rattle.cautions.proofs.Handed.{length-put}
use Rattle.lines.specs.Texts.{bare_listing}
use Rattle.lines.specs.declared.texts.Listing as held
use Rattle.flow.specs.LineForms.{Formed}
use Rattle.flow.specs.declared.lineforms.LineForm.{LineForm}
use Rattle.raising.specs.Tables.{is_on, Room, Untold, sets_now}
use Rattle.raising.specs.Steps.{joined}
use Rattle.raising.specs.Spread.{is_noted, far_kinds}
use Rattle.raising.specs.Noting.{kinds_from, Forgotten}
use Rattle.std.specs.Prelude as std
use Rattle.usefacts.specs.declared.parts.Before.{Before}
use Rattle.raising.specs.Renewing.{RenewedTo}
use Rattle.raising.proofs.Putting.{both_spread}
use Rattle.raising.proofs.Told.{long}
use Rattle.raising.proofs.Noted.{notes, noted_is, noted_early, kinds_all}
use Rattle.raising.specs.Halfway.{Halfway, own_kinds, shared_kinds}
use Rattle.raising.specs.declared.tables.Raising.{Raising}
use Rattle.raising.proofs.Told.{assigned, forgotten_join}

if_found {ℓ κ} : {A : Type ℓ} {B : Type κ} {o : Option A} {x : A} (d : B) (k : A → B) → o ≡ some x → (let_some o else d then k) ≡ k x
unfolding let_some◌else◌then◌
if_found d k e = rw e refl

-- ---- a line taken out

module _ {A : Type 0} (d : A) where
  pub at_before : (i : ℕ) (xs : List A) (q : ℕ) → q < i → get_or (remove i xs) q d ≡ get_or xs q d
  at_before i [] q h = refl
  at_before zero (x ∷ xs) q h = absurd (omega arith)
  at_before (suc i) (x ∷ xs) zero h = refl
  at_before (suc i) (x ∷ xs) (suc q) h = at_before i xs q (omega arith)

  pub at_behind : (i : ℕ) (xs : List A) (q : ℕ) → i ≤ q → get_or (remove i xs) q d ≡ get_or xs (suc q) d
  at_behind i [] q h = refl
  at_behind zero (x ∷ xs) q h = refl
  at_behind (suc i) (x ∷ xs) zero h = absurd (omega arith)
  at_behind (suc i) (x ∷ xs) (suc q) h = at_behind i xs q (omega arith)

-- ---- the lines that are left

module _ (rules : Rules) (lines : Listing) (i : ℕ) (p : Plan) where
  acted_at : (q : ℕ) → q < length lines → map_from (acted_line rules i p) 0 lines at q ≡ acted_line rules i p q (lines at q)
  acted_at q h = getD_map_from (acted_line rules i p) 0 lines q blank blank h ∙ rw (zero-add q) refl

  pub left_before : (q : ℕ) → q < i → q < length lines → act rules lines i p at q ≡ lines at q
  unfolding act
  left_before q h b =
      at_before blank i (map_from (acted_line rules i p) 0 lines) q h ∙ acted_at q b ∙ early (volatile rules) i p _ q (lines at q) (omega arith)

  pub left_behind : (q : ℕ) → i ≤ q → suc q < length lines → act rules lines i p at q ≡ acted_line rules i p (suc q) (lines at suc q)
  unfolding act
  left_behind q h b = at_behind blank i (map_from (acted_line rules i p) 0 lines) q h ∙ acted_at (suc q) b

-- ---- sets

module _ (s : ℕ) (js : List ℕ) where
  at_put : (k : ℕ) (ts : List ℕ) (q : ℕ) → q < length ts → get_or (put s js k ts) q 0 ≡ get_or ts q 0 ∪ s given any (eqb (k + q)) js
  unfolding put
  at_put k [] q h = absurd (omega arith)
  at_put k (t ∷ ts) zero h = let e : k ≡ k + 0 = omega arith in ap (λ (m : ℕ). t ∪ s given any (eqb m) js) e
  at_put k (t ∷ ts) (suc q) h = let e : suc k + q ≡ k + suc q = omega arith in at_put (suc k) ts q (omega arith) ∙ ap (λ (m : ℕ). get_or ts q 0 ∪ s given any (eqb m) js) e

  pub put_at : (ts : List ℕ) (q : ℕ) → q < length ts → get_or (put s js 0 ts) q 0 ≡ get_or ts q 0 ∪ s given any (eqb q) js
  put_at ts q h = let e : 0 + q ≡ q = omega arith in at_put 0 ts q h ∙ ap (λ (m : ℕ). get_or ts q 0 ∪ s given any (eqb m) js) e

-- ---- a list whose places behind i moved up by one

module _ {A : Type 0} (xs : List A) (i n : ℕ) (d : A) (b : i ≤ n) (room : n + 1 ≤ length xs) where
  abbrev m : ℕ
  m = n + 1 - (i + 1)

  abbrev tail : List A
  tail = drop (i + 1) xs

  front_long : length (take i xs) ≡ i
  front_long = length-take-le i xs (omega arith)

  tail_long : length (take m tail) ≡ m
  tail_long = length-take-le m tail (omega (arith, length-drop (i + 1) xs))

  head_long : length (take i xs ++ take m tail) ≡ i + m
  head_long = length-append (take i xs) (take m tail) ∙ ap (λ (k : ℕ). k + length (take m tail)) front_long ∙ ap (λ (k : ℕ). i + k) tail_long

  in_head : (q : ℕ) → q < n → get_or (copy_within xs (i + 1) (n + 1) i) q d ≡ get_or (take i xs ++ take m tail) q d
  in_head q h = get_or-append (take i xs ++ take m tail) (drop (i + m) xs) d q (omega (arith, head_long))

  pub shifted_before : (q : ℕ) → q < i → get_or (copy_within xs (i + 1) (n + 1) i) q d ≡ get_or xs q d
  shifted_before q h =
      get_or-append (take i xs ++ take m tail) (drop (i + m) xs) d q (omega (arith, head_long))
      ∙ get_or-append (take i xs) (take m tail) d q (omega (arith, front_long)) ∙ get_or-take i xs q d h

  pub shifted_behind : (q : ℕ) → i ≤ q → q < n → get_or (copy_within xs (i + 1) (n + 1) i) q d ≡ get_or xs (q + 1) d
  shifted_behind q h c =
      let same : i + 1 + (q - i) ≡ q + 1 = omega arith in
      in_head q c
      ∙ get_or-append_right (take i xs) (take m tail) q d (omega (arith, front_long))
      ∙ ap (λ (k : ℕ). get_or (take m tail) (q - k) d) front_long
      ∙ get_or-take m tail (q - i) d (omega arith)
      ∙ get_or-drop (i + 1) xs (q - i) d
      ∙ ap (λ (k : ℕ). get_or xs k d) same

-- ---- what the join puts on the lines

module _ {rules : Rules} {lines : Listing} {i : ℕ} {p : Plan} {before r : Raising} {own : ℕ} (h : Halfway rules lines i p before r own)
    (inside : i < length lines) where
  abbrev f : Fam
  f = h.planned.def.fam

  abbrev js : List ℕ
  js = into rules lines i p

  cautions_are : (new : Listing) → join_cautions rules lines (success i js new)
      ≡ spread rules lines (ways lines) i f.name (far rules lines i f.name js) (uses_cautions rules lines (ways lines) i f p.expr js new) js false
  unfolding join_cautions
  cautions_are new =
      let a = assigned (lines at i).tokens h.planned.def h.planned.known in
      let e : a.side.expr ≡ p.expr = a.expr_is ∙ sym h.planned.same_expr in
      if_found _ _ a.assigns ∙ if_found _ _ a.names
      ∙ ap (λ (x : List Token). spread rules lines (ways lines) i f.name (far rules lines i f.name js) (uses_cautions rules lines (ways lines) i f x js new) js false) e

  regroup : (o w s u x : ℕ) → (o ∪ (w ∪ (s ∪ u))) ∪ x ≡ ((o ∪ (w ∪ s)) ∪ x) ∪ u
  regroup o w s u x =
      ap (λ (y : ℕ). y ∪ x) (ap (λ (y : ℕ). o ∪ y) (sym (or_assoc w s u)) ∙ sym (or_assoc o (w ∪ s) u))
      ∙ or_assoc (o ∪ (w ∪ s)) u x
      ∙ ap (λ (y : ℕ). (o ∪ (w ∪ s)) ∪ y) (or_comm u x)
      ∙ sym (or_assoc (o ∪ (w ∪ s)) x u)

  twice : (x a b : ℕ) (c : Bool) → (x ∪ a given c) ∪ b given c ≡ x ∪ (a ∪ b) given c
  unfolding ◌given◌ when◌then◌else◌
  twice x a b true = or_assoc x a b
  twice x a b false = or_zero_r (x ∪ 0)

  without : (x a : ℕ) {c : Bool} → c ≡ false → x ∪ a given c ≡ x
  unfolding ◌given◌ when◌then◌else◌
  without x a e = rw e (or_zero_r x)

  module _ (l : held.Listing) (left : bare_listing l ≡ act rules lines i p) (on : is_on before ≡ true) (room : Room r) (few : length l.lines.now < 256) where
    abbrev new : Listing
    new = act rules lines i p

    size : length new ≡ length l.lines.now
    size = sym (ap (λ (ls : Listing). length ls) left) ∙ long l

    left_long : length new + 1 ≡ length lines
    unfolding act
    left_long =
        let y = length-map-from (acted_line rules i p) 0 lines in
        let z = length-remove i (map_from (acted_line rules i p) 0 lines) (omega (arith, y, inside)) in
        let same : length new ≡ length (remove i (map_from (acted_line rules i p) 0 lines)) = refl in
        omega (arith, z, y, same)

    all_fit : length lines ≤ 256
    all_fit = omega (arith, size, left_long, few)

    abbrev sets : List ℕ
    sets = take (length lines) r.sets.now

    sets_long : length sets ≡ length lines
    sets_long = length-take-le (length lines) r.sets.now (omega (arith, all_fit, room.for_sets))

    set_is : (k : ℕ) → k < length lines → get_or sets k 0 ≡ get_or r.sets.now k 0
    set_is k b = get_or-take (length lines) r.sets.now k 0 b

    abbrev uses : ℕ
    uses = union (map (λ j. line_cautions rules lines (ways lines) i f p.expr j (new at moved i j).tokens) js)

    uses_are : kinds_from (drop (i + 1) r.parts.now) (drop i (bare_listing l)) ≡ uses
    uses_are = rw (left, add-one) (kinds_all (h.begun on).told (ways lines) new left_long (omega (arith, all_fit, room.for_parts)) inside)

    -- all that the join puts on a line that it rewrites
    abbrev put_kinds : ℕ
    put_kinds = uses_cautions rules lines (ways lines) i f p.expr js new ∪ far_kinds rules lines i f.name js false

    put_are : put_kinds ≡ own ∪ uses
    unfolding uses_cautions shared_kinds own_kinds
    put_are =
        regroup (odd_form given is_odd rules lines (ways lines) i f p.expr (get_or (reverse js) 0 i))
        (overwritten given past_call rules lines (ways lines) i f p.expr (get_or (reverse js) 0 i))
        (slot given starts_with f.name (bytes "var_")) uses (far_kinds rules lines i f.name js false)
        ∙ ap (λ (x : ℕ). x ∪ uses) (sym (h.begun on).own_is)

    joined_sets : both (sets_now lines before) (join_cautions rules lines (success i js new)) ≡ put put_kinds js 0 sets
    joined_sets =
        let n : length (sets_now lines before) ≡ length lines = length-take-le (length lines) before.sets.now (omega (arith, all_fit, room.for_sets, h.long)) in
        ap (both (sets_now lines before)) (cautions_are new)
        ∙ both_spread rules lines i f.name (uses_cautions rules lines (ways lines) i f p.expr js new) js false (sets_now lines before) n
        ∙ ap (put put_kinds js 0) (sym (h.begun on).sets)

    noted_as : (k : ℕ) → k < length lines → any (eqb k) js ≡ is_noted r.parts.now k
    noted_as k b = notes (h.begun on).told k (lt-ltb k (length lines) b)

    unnoted : (k : ℕ) → k ≤ i → any (eqb k) js ≡ false
    unnoted k b = noted_as k (omega (arith, inside, b)) ∙ noted_early (h.begun on).told k (omega (arith, inside, b)) b

    -- the set of line i
    own_set : get_or (put put_kinds js 0 sets) i 0 ≡ get_or r.sets.now i 0
    own_set = put_at put_kinds js sets i (omega (arith, sets_long, inside)) ∙ without (get_or sets i 0) put_kinds (unnoted i (le_refl i)) ∙ set_is i inside

    -- the sets with those of the join, and with that of line i
    abbrev whole : List ℕ
    whole = put (get_or r.sets.now i 0) js 0 (put put_kinds js 0 sets)

    whole_at : (k : ℕ) → k < length lines
        → get_or whole k 0 ≡ get_or r.sets.now k 0 ∪ (own ∪ (uses ∪ get_or r.sets.now i 0)) given is_noted r.parts.now k
    whole_at k b =
        let s = get_or r.sets.now i 0 in
        let n : length (put put_kinds js 0 sets) ≡ length lines = length-put put_kinds js 0 sets ∙ sets_long in
        put_at s js (put put_kinds js 0 sets) k (omega (arith, n, b))
        ∙ ap (λ (x : ℕ). x ∪ s given any (eqb k) js) (put_at put_kinds js sets k (omega (arith, sets_long, b)) ∙ ap (λ (x : ℕ). x ∪ put_kinds given any (eqb k) js) (set_is k b))
        ∙ twice (get_or r.sets.now k 0) put_kinds s (any (eqb k) js)
        ∙ ap (λ (x : ℕ). get_or r.sets.now k 0 ∪ x given any (eqb k) js) (ap (λ (x : ℕ). x ∪ s) put_are ∙ or_assoc own uses s)
        ∙ ap (λ (c : Bool). get_or r.sets.now k 0 ∪ (own ∪ (uses ∪ s)) given c) (noted_as k b)

    joined_is : joined rules lines i p (sets_now lines before) ≡ remove i whole
    unfolding hand_on
    joined_is =
        ap (λ (ss : List ℕ). hand_on i js ss) joined_sets
        ∙ ap (λ (s : ℕ). remove i (put s js 0 (put put_kinds js 0 sets))) own_set

    whole_long : length whole ≡ length lines
    whole_long = length-put (get_or r.sets.now i 0) js 0 (put put_kinds js 0 sets) ∙ length-put put_kinds js 0 sets ∙ sets_long

    -- what the lines told is forgotten
    pub untold_left : {last : ℕ} {parts' : List (std.Option Before)} → i ≤ last → Forgotten (i + 1) (last + 1) r.parts.now parts'
        → ((k : ℕ) → last < k → k ≤ length l.lines.now → get_or r.parts.now k std.None ≡ std.None) → Untold parts'
    untold_left {last} a g b =
        forgotten_join (h.begun on).told h.planned.reached.0 last a g (λ k c d. b k c (omega (arith, d, size, left_long)))

    module _ {sets' : List ℕ} {forms' : List LineForm}
        (t : RenewedTo l i (length l.lines.now) (own ∪ (kinds_from (drop (i + 1) r.parts.now) (drop i (bare_listing l)) ∪ get_or r.sets.now i 0)) r.parts.now
        (copy_within r.sets.now (i + 1) (length l.lines.now + 1) i) (copy_within r.forms.now (i + 1) (length l.lines.now + 1) i) sets' forms')
        (room' : length l.lines.now ≤ length sets') where
      last_in : i ≤ length l.lines.now
      last_in = omega (arith, size, left_long, inside)

      set_left : (q : ℕ) → q < length l.lines.now → get_or sets' q 0 ≡ get_or (remove i whole) q 0
      set_left q b =
          by_cases (dec_lt q i)
          (λ a.
          (t.before q a).0 ∙ shifted_before r.sets.now i (length l.lines.now) 0 last_in (omega (arith, few, room.for_sets)) q a
          ∙ sym (at_before 0 i whole q a ∙ whole_at q (omega (arith, a, inside))
          ∙ without (get_or r.sets.now q 0) (own ∪ (uses ∪ get_or r.sets.now i 0)) (noted_early (h.begun on).told q (omega (arith, a, inside)) (omega arith))))
          (λ a.
          (let e : suc q ≡ q + 1 = omega arith in
          t.set_is q (omega arith) b
          ∙ ap (λ (x : ℕ). x ∪ (own ∪ (kinds_from (drop (i + 1) r.parts.now) (drop i (bare_listing l)) ∪ get_or r.sets.now i 0)) given is_noted r.parts.now (q + 1))
          (shifted_behind r.sets.now i (length l.lines.now) 0 last_in (omega (arith, few, room.for_sets)) q (omega arith) b)
          ∙ ap (λ (u : ℕ). get_or r.sets.now (q + 1) 0 ∪ (own ∪ (u ∪ get_or r.sets.now i 0)) given is_noted r.parts.now (q + 1)) uses_are
          ∙ sym (at_behind 0 i whole q (omega arith) ∙ whole_at (suc q) (omega (arith, b, size, left_long))
          ∙ ap (λ (k : ℕ). get_or r.sets.now k 0 ∪ (own ∪ (uses ∪ get_or r.sets.now i 0)) given is_noted r.parts.now k) e)))

      pub sets_left : take (length new) sets' ≡ joined rules lines i p (sets_now lines before)
      sets_left =
          let z = length-remove i whole (omega (arith, whole_long, inside)) in
          let n : length (take (length new) sets') ≡ length new = length-take-le (length new) sets' (omega (arith, size, room')) in
          ext_get_or 0 (take (length new) sets') (remove i whole) (omega (arith, n, z, whole_long, left_long))
          (λ q b.
          (let c : q < length new = omega (arith, n, b) in get_or-take (length new) sets' q 0 c ∙ set_left q (omega (arith, size, c))))
          ∙ sym joined_is

      pub forms_left : (q : ℕ) → q < length new → Formed (new at q).tokens (get_or forms' q no_form)
      forms_left q b =
          by_cases (dec_lt q i)
          (λ a.
          (let same = (t.before q a).1 ∙ shifted_before r.forms.now i (length l.lines.now) no_form last_in (omega (arith, few, room.for_forms)) q a in
          subst (λ (g : LineForm). Formed (new at q).tokens g) (sym same)
          (subst (λ (x : Line). Formed x.tokens (get_or r.forms.now q no_form)) (sym (left_before rules lines i p q a (omega (arith, a, inside))))
          (h.kept.formed on_now q (omega (arith, a, inside))))))
          (λ a.
          by_test (is_noted r.parts.now (q + 1))
          (λ e. subst (λ (ls : Listing). Formed (ls at q).tokens (get_or forms' q no_form)) left (t.form_is q (omega arith) (omega (arith, size, b)) e))
          (λ e.
          (let s : suc q ≡ q + 1 = omega arith in
          let c : suc q < length lines = omega (arith, b, left_long) in
          let kept = sym (noted_is (h.begun on).told (suc q) c) ∙ ap (λ (k : ℕ). is_noted r.parts.now k) s ∙ e in
          let same = t.form_kept q e ∙ shifted_behind r.forms.now i (length l.lines.now) no_form last_in (omega (arith, few, room.for_forms)) q (omega arith) (omega (arith, size, b)) in
          let line = left_behind rules lines i p q (omega arith) c ∙ line_kept (volatile rules) i p _ (suc q) (lines at suc q) kept in
          subst (λ (g : LineForm). Formed (new at q).tokens g) (sym (same ∙ ap (λ (k : ℕ). get_or r.forms.now k no_form) (sym s)))
          (subst (λ (x : Line). Formed x.tokens (get_or r.forms.now (suc q) no_form)) (sym line) (h.kept.formed on_now (suc q) c)))))
        where
          on_now : is_on r ≡ true
          on_now = ap (λ (n : ℕ). ltb 0 n) h.long ∙ on
