-- How far a constant reaches, and whether each use takes it: the cases in which the functions return, and the turns of their loops.
-- Assumes nothing.
use Prim.Native.Nat.{ℕ, suc, ◌+◌, ◌-◌, ◌≤◌, ◌<◌}
use native.Mathlib.Omega.{arith}
use native.Mathlib.Numerals.{add-one}
use mathlib.Core.Path.{◌≡◌, refl, sym, ◌∙◌}
use mathlib.Core.Bool.{Bool, true, false, not as flip, ◌&&◌}
use mathlib.Core.List.{List, [], ◌∷◌}
use lib.ListN.{length, get_or, take, drop, length-map}
use lib.Seq.{slice, length-take-le}
use native.Mathlib.Decide.{dec_le}
use mathlib.Core.Logic.{by_cases}
use lib.Dec.{eqb, leb}
use borrow.Author.Tests.{le-leb, lt-leb}
use Rattle.reference.specs.Control.{not, ◌and◌, ◌or◌, when◌then◌else◌, let_some◌else◌then◌}
use Rattle.reference.specs.Text.{Text, bytes, starts_with}
use Rattle.reference.specs.Listing.{◌at◌, is, Punct}
use Rattle.reference.specs.Names.{of_family}
use Rattle.reference.specs.Shapes.{braces_in}
use Rattle.reference.specs.Life.{touch_of, match_touch, is_kill, Labels, dead_after}
use Rattle.reference.specs.Join.{ends_run, updates_first}
use Rattle.laws.proofs.Scans.{any-map, or_only}
use Rattle.joining.specs.Plan.{reach_at, reach_from, reach_of, refuses, all_take, ends_at}
use Rattle.joining.proofs.Reaching.{reach-ended, reach_end, reach_turn}
use Rattle.std.proofs.Common.{Bor, Iter}
use Rattle.std.proofs.iter.Yields.{fronts}
use Rattle.std.proofs.lemmas.Iterator.{YieldsList, YieldsList-from_slice}
use Rattle.std.proofs.lemmas.Iterator.Adapters.{YieldsList-from_skip, serves_from_places}
use Rattle.std.proofs.lemmas.Iterator.Search.{all_from_yields_List}
use Rattle.std.proofs.lemmas.List.{drop-map, get_or-drop, get_or-take, get_or_read, length-drop, take-map}
use Rattle.std.specs.Fn.{Called}
use Rattle.std.specs.Iterator.{CallableAtEachTurn, ChecksAll}
use Rattle.std.specs.Iterator.Adapters.{skip_count, skip_source, skip_steps}
use Rattle.std.specs.List.{list_all}
use Rattle.std.specs.Slice.Iter.{iter_rest}
use Rattle.std.specs.declared.iter.Skip.{Skip}
use denote.Param.Members.{Mut}
use Rattle.reference.specs.Lists.{any}
use Rattle.lines.specs.Words.{kind_of, text_of, token_of, tokens_of}
use Rattle.lines.specs.Lines.{indent_of, part_of, bare_in, bare_listing, Lined, Listed}
use Rattle.lines.proofs.words.Lines.{bare_at}
use Rattle.life.specs.declared.touches.Touched.{Touched}
use Rattle.life.specs.declared.touches.Touched.TheVariants.{Nothing, Kill, Use}
use Rattle.life.specs.Touches.{touched}
use Rattle.plan.specs.Reaches.{reach, reached}
use Rattle.plan.specs.declared.reaches.Reach.{Reach}
use Rattle.std.proofs.Common.{ControlFlow, Continue, Break, ◌⊎◌, inl, inr, ap}

-- ---- a place in the listing

module _ (tape area : Text) (tokens lines : List ℕ) where
  pub line_at : (k : ℕ) → k < length lines → bare_listing tape area tokens lines at k ≡ bare_in tape area tokens (get_or lines k 0)
  line_at k h = bare_at tape area tokens [] lines k h

  pub line_below : {k : ℕ} → k < length lines → k < length (bare_listing tape area tokens lines)
  line_below h = rw length-map h

  pub line_past : {k : ℕ} → length lines ≤ k → length (bare_listing tape area tokens lines) ≤ k
  line_past h = rw length-map h

-- ---- one line

-- r is the reach, o being that before line j, which touches it so
abbrev pub Looks : ℕ → Reach → Touched → Reach → Type 0
Looks j o q r = ((q ≡ Nothing) × (r ≡ o)) ⊎ ((n : ℕ) × (q ≡ Use n) × (r ≡ record { used = true; last = j }))

module _ (tape area : Text) (tokens : List ℕ) (l j base : ℕ) (fam : Text) (vs : List Text) (o : Reach)
    {x : Bool} (ex : x ≡ ends_run base (bare_in tape area tokens l)) where
  abbrev pub Looked : ControlFlow Reach Reach → Type 0
  Looked r = reach r ≡ reach_at base fam vs j (bare_in tape area tokens l) (reached o)

  pub reach-ends : x ≡ true → Looked (Break o)
  unfolding reach_at when◌then◌else◌
  reach-ends t = rw (← ex, t)

  module _ (t : x ≡ false) {ws : List ℕ} (ew : ws ≡ part_of tokens l) {q : Touched} (eq : touched q ≡ touch_of (tokens_of tape area ws) fam vs) where
    pub reach_kill : q ≡ Kill → Looked (Break (record { used = o.used; last = j }))
    unfolding reach_at when◌then◌else◌ match_touch
    reach_kill e = rw (← ex, t, ← ew, ← eq, e)

    -- r is the reach with this line; b is whether the line has a brace
    module _ {r : Reach} (er : Looks j o q r) {b : Bool} (eb : b ≡ braces_in (tokens_of tape area ws)) where
      reach-is : record { used = r.used; last = r.last; ended = b } ≡ reach_at base fam vs j (bare_in tape area tokens l) (reached o)
      unfolding reach_at when◌then◌else◌ match_touch
      reach-is = elim er [ inl h ↦ rw (← ex, t, ← ew, ← eq, h.0, ← eb, h.1) | inr h ↦ rw (← ex, t, ← ew, ← eq, h.1, ← eb, h.2) ]

      pub reach-breaks : b ≡ true → Looked (Break r)
      reach-breaks f = rw f at reach-is

      pub reach_goes : b ≡ false → Looked (Continue r)
      reach_goes f = rw f at reach-is

-- ---- the lines, one after the other

module _ (tape area : Text) (tokens lines : List ℕ) (i : ℕ) (fam : Text) (vs : List Text) where
  -- what is reached from line j on
  abbrev pub Reached : ℕ → Reach → Type 0
  Reached j o =
      reach_of (bare_listing tape area tokens lines) i fam vs
      ≡ reach_from (indent_of (get_or lines i 0)) fam vs j (drop j (bare_listing tape area tokens lines)) (reached o)

  pub reached_begin : i < length lines → Reached (i + 1) (record { used = false; last = i })
  unfolding reach_of
  reached_begin h = rw (add-one, line_at tape area tokens lines i h)

  module _ (j : ℕ) (o : Reach) (inv : Reached j o) where
    pub reached_end : length lines ≤ j → reach (Continue o) ≡ reach_of (bare_listing tape area tokens lines) i fam vs
    reached_end b = sym (inv ∙ reach_end (indent_of (get_or lines i 0)) fam vs (bare_listing tape area tokens lines) j (reached o) (line_past tape area tokens lines b))

    module _ (b : j < length lines) {base : ℕ} (eb : base ≡ indent_of (get_or lines i 0)) (q : ControlFlow Reach Reach)
        (h : reach q ≡ reach_at base fam vs j (bare_in tape area tokens (get_or lines j 0)) (reached o)) where
      turned : reach_of (bare_listing tape area tokens lines) i fam vs
          ≡ reach_from (indent_of (get_or lines i 0)) fam vs (j + 1) (drop (j + 1) (bare_listing tape area tokens lines)) (reach q)
      turned =
          inv
          ∙ reach_turn (indent_of (get_or lines i 0)) fam vs (bare_listing tape area tokens lines) j (reached o) (line_below tape area tokens lines b) refl
          ∙ rw (line_at tape area tokens lines j b, h, eb)

      pub reached-next : {r : Reach} → q ≡ Continue r → Reached (j + 1) r
      reached-next e = rw e at turned

      pub reached-ended : {r : Reach} → q ≡ Break r → reach (Break r) ≡ reach_of (bare_listing tape area tokens lines) i fam vs
      reached-ended {r} e =
          sym ((rw e at turned)
          ∙ reach-ended (indent_of (get_or lines i 0)) fam vs (j + 1) (drop (j + 1) (bare_listing tape area tokens lines)) (reach (Break r)) refl)

-- ---- the first token

updates-short : (tape area fam : Text) (ws : List ℕ) → length ws < 2 → updates_first fam (tokens_of tape area ws) ≡ false
unfolding updates_first ◌and◌ let_some◌else◌then◌
updates-short tape area fam [] h = refl
updates-short tape area fam (w ∷ []) h = fails (of_family fam (token_of tape area w) or false)
  where
    fails : (b : Bool) → (b and false) ≡ false
    fails true = refl
    fails false = refl
updates-short tape area fam (w ∷ u ∷ us) h = absurd (omega arith)

updates-long : (tape area fam : Text) (ws : List ℕ) → 2 ≤ length ws
    → updates_first fam (tokens_of tape area ws)
    ≡ (of_family fam (token_of tape area (get_or ws 0 0))
    and is Punct (token_of tape area (get_or ws 1 0))
    and not (starts_with (text_of tape area (get_or ws 1 0)) (bytes " = "))
    and not (starts_with (text_of tape area (get_or ws 1 0)) (bytes " ==")))
unfolding updates_first let_some◌else◌then◌
updates-long tape area fam [] h = absurd (omega arith)
updates-long tape area fam (w ∷ []) h = absurd (omega arith)
updates-long tape area fam (w ∷ u ∷ us) h = rw (← or_only {a = of_family fam (token_of tape area w)} refl)

pub updates_is : (tape area fam : Text) (ws : List ℕ)
    → updates_first fam (tokens_of tape area ws)
    ≡ (leb 2 (length ws)
    and of_family fam (token_of tape area (get_or ws 0 0))
    and eqb (kind_of (get_or ws 1 0)) Punct
    and not (starts_with (text_of tape area (get_or ws 1 0)) (bytes " = "))
    and not (starts_with (text_of tape area (get_or ws 1 0)) (bytes " ==")))
unfolding ◌and◌ is
updates_is tape area fam ws =
    by_cases (dec_le 2 (length ws))
    (λ h. updates-long tape area fam ws h ∙ rw (le-leb 2 (length ws) h))
    (λ h. (let b : length ws < 2 = omega (arith, h) in updates-short tape area fam ws b ∙ rw (lt-leb 2 (length ws) b)))

-- ---- all of them

all-refuse-not : (q : ℕ → Bool) (ws : List ℕ) → list_all (λ w. flip (q w)) ws ≡ not (any q ws)
unfolding not ◌or◌
all-refuse-not q [] = refl
all-refuse-not q (w ∷ ws) = rw (all-refuse-not q ws) (either (q w) (any q ws))
  where
    either : (a b : Bool) → (flip a && not b) ≡ not (a or b)
    either true b = refl
    either false b = refl

module _ (tape area : Text) (tokens lines : List ℕ) (i last : ℕ) where
  -- the lines after line i, up to `last`
  abbrev after : List ℕ
  after = drop (i + 1) (take (last + 1) lines)

  gives-after : {s : Skip (Iter ℕ)} → iter_rest (skip_source s) ≡ take (last + 1) lines → skip_count s ≡ i + 1 → YieldsList (skip_steps fronts) (λ y. y.now) s after
  gives-after e n = YieldsList-from_skip (i + 1) (YieldsList-from_slice (take (last + 1) lines) e) n

  pub serves_after : Listed tape area tokens lines → last < length lines → {s : Skip (Iter ℕ)} {F : Type 0} {R : F → Bor ℕ → F → Type 0} {Q : F → Bor ℕ → Type 0} {f : F}
      → iter_rest (skip_source s) ≡ take (last + 1) lines → skip_count s ≡ i + 1
      → ((x : Bor ℕ) (q : F) → R f x q → q ≡ f) → ((x : Bor ℕ) → Lined tape area tokens x.now → Q f x) → CallableAtEachTurn (skip_steps fronts) R Q s f
  serves_after h l e n same calls =
      serves_from_places (gives-after e n) same
      (λ x k b p.
      let long : length (take (last + 1) lines) ≡ last + 1 = length-take-le (last + 1) lines (omega (arith, l)) in
      let d : k < last + 1 - (i + 1) = rw (length-drop, long) at b in
      let m : i + 1 + k < last + 1 = omega (arith, d) in
      let r : i + 1 + k < length lines = omega (arith, m, l) in
      calls x (rw (get_or_read lines _ x.now r (p ∙ get_or-drop (i + 1) (take (last + 1) lines) k x.now ∙ get_or-take (last + 1) lines (i + 1 + k) x.now m) 0) (h.at _ r)))

  module _ (fam : Text) (vs : List Text) where
    abbrev taken : Bool
    taken = all_take fam vs (slice (suc i) (suc last) (bare_listing tape area tokens lines))

    taken_is : taken ≡ not (any (λ w. refuses fam vs (bare_in tape area tokens w)) after)
    unfolding all_take
    taken_is =
        ap (λ ls. not (any (refuses fam vs) ls))
        (ap (drop (suc i)) (take-map (bare_in tape area tokens) (suc last) lines) ∙ drop-map (bare_in tape area tokens) (suc i) (take (suc last) lines))
        ∙ ap not (any-map (refuses fam vs) (bare_in tape area tokens) (drop (suc i) (take (suc last) lines)))
        ∙ rw (add-one i, add-one last) refl

    pub all_after : {F : Type 0} {g : Mut F (Bor ℕ × Unit {0}) Bool} {s : Skip (Iter ℕ)} (u : Skip (Iter ℕ)) (h : F) (r : Bool) → ChecksAll (skip_steps fronts) g s h r u
        → iter_rest (skip_source s) ≡ take (last + 1) lines → skip_count s ≡ i + 1
        → ((x : Bor ℕ) (b : Bool) (q : F) → Called g h (x, tt) b q → (q ≡ h) × (b ≡ flip (refuses fam vs (bare_in tape area tokens x.now)))) → r ≡ taken
    all_after u h r ran e n same =
        all_from_yields_List (λ w. flip (refuses fam vs (bare_in tape area tokens w))) u h r ran (gives-after e n) same
        ∙ all-refuse-not (λ w. refuses fam vs (bare_in tape area tokens w)) after
        ∙ sym taken_is

-- ---- the end

pub ends_is : (tape area : Text) (tokens lines : List ℕ) (i last : ℕ) (fam : Text) (labels : Labels) (vs : List Text) → i < length lines → last < length lines
    → ends_at (bare_listing tape area tokens lines) i fam labels vs last
    ≡ (dead_after (bare_listing tape area tokens lines) last fam (indent_of (get_or lines i 0)) labels i vs
    or is_kill (touch_of (tokens_of tape area (part_of tokens (get_or lines last 0))) fam vs))
unfolding ends_at
ends_is tape area tokens lines i last fam labels vs h b = rw (line_at tape area tokens lines i h, line_at tape area tokens lines last b)
