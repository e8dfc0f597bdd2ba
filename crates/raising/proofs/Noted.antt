-- Which lines are noted when the table has what each line tells: those that the plan changes; and what they tell together with the new lines is what the
-- definitions say of the uses. Assumes nothing.
use Prim.Native.Nat.{ℕ, zero, suc, ◌+◌, ◌-◌, ◌≤◌, ◌<◌}
use native.Mathlib.Omega.{arith}
use native.Mathlib.Nat.{add-zero}
use native.Mathlib.Decide.{dec_lt}
use mathlib.Core.Logic.{by_cases}
use mathlib.Core.Path.{◌≡◌, refl, sym, ap, ◌∙◌}
use mathlib.Core.Bool.{true, false}
use mathlib.Core.List.{List, [], ◌∷◌, map, reverse}
use lib.Dec.{eqb}
use lib.ListN.{length, get_or, drop}
use lib.Seq.{drop-cons}
use Rattle.std.specs.Prelude as std
use Rattle.std.proofs.lemmas.List.{get_or-drop, drop_all, length-drop}
use borrow.Author.Tests.{eq-eqb, ne_eqb, lt-ltb, ltb-true}
use Rattle.laws.proofs.Scans.{if-true, if-false, by_test}
use Rattle.reference.specs.Control.{◌or◌}
use Rattle.reference.specs.Lists.{any}
use Rattle.reference.specs.Text.{Text}
use Rattle.reference.specs.Listing.{Line, Listing, ◌at◌, blank}
use Rattle.reference.specs.Marks.{moved}
use Rattle.reference.specs.Names.{Fam}
use Rattle.reference.specs.Rules.{Rules, volatile}
use Rattle.joining.specs.Plan.{Plan, changes}
use Rattle.plan.proofs.Changed.{not-later}
use Rattle.cautions.specs.Kinds.{◌∪◌, union}
use Rattle.cautions.specs.Forms.{Ways}
use Rattle.cautions.specs.Joins.{line_cautions}
use Rattle.usefacts.specs.declared.parts.Before.{Before}
use Rattle.usefacts.proofs.Splitting.{line_parts}
use Rattle.raising.specs.Steps.{changed_from, into}
use Rattle.raising.specs.Spread.{is_told, is_noted, Notes}
use Rattle.raising.specs.Noting.{ToldBy, noted_from, last_noted, kinds_told, kinds_from}
use Rattle.raising.proofs.Told.{told_none, told_some}

-- ---- the places of the lines that a plan changes

module _ (vs : List Text) (i : ℕ) (p : Plan) where
  -- the first of them
  changed_yes : (k : ℕ) (l : Line) (ls : Listing) → changes vs i p k l ≡ true → changed_from vs i p k (l ∷ ls) ≡ k ∷ changed_from vs i p (suc k) ls
  unfolding changed_from
  changed_yes k l ls e = if-true _ _ e

  changed_no : (k : ℕ) (l : Line) (ls : Listing) → changes vs i p k l ≡ false → changed_from vs i p k (l ∷ ls) ≡ changed_from vs i p (suc k) ls
  unfolding changed_from
  changed_no k l ls e = if-false _ _ e

  changed_none : (k : ℕ) → changed_from vs i p k [] ≡ []
  unfolding changed_from
  changed_none k = refl

  below : (q k : ℕ) (ls : Listing) → q < k → any (eqb q) (changed_from vs i p k ls) ≡ false
  unfolding changed_from ◌or◌
  below q k [] h = refl
  below q k (l ∷ ls) h =
      by_test (changes vs i p k l)
      (λ e. ap (any (eqb q)) (changed_yes k l ls e) ∙ rw (ne_eqb q k (λ x. omega arith)) (below q (suc k) ls (omega arith)))
      (λ e. ap (any (eqb q)) (changed_no k l ls e) ∙ below q (suc k) ls (omega arith))

  within : (q k : ℕ) (ls : Listing) → q < length ls → any (eqb (k + q)) (changed_from vs i p k ls) ≡ changes vs i p (k + q) (get_or ls q blank)
  unfolding changed_from ◌or◌
  within q k [] h = absurd (omega arith)
  within zero k (l ∷ ls) h =
      rw (add-zero k)
      (by_test (changes vs i p k l)
      (λ e. ap (any (eqb k)) (changed_yes k l ls e) ∙ rw (eq-eqb k k refl) (sym e))
      (λ e. ap (any (eqb k)) (changed_no k l ls e) ∙ below k (suc k) ls (omega arith) ∙ sym e))
  within (suc q) k (l ∷ ls) h =
      let s : k + suc q ≡ suc k + q = omega arith in
      rw s
      (by_test (changes vs i p k l)
      (λ e. ap (any (eqb (suc k + q))) (changed_yes k l ls e) ∙ rw (ne_eqb (suc k + q) k (λ x. omega arith)) (within q (suc k) ls (omega arith)))
      (λ e. ap (any (eqb (suc k + q))) (changed_no k l ls e) ∙ within q (suc k) ls (omega arith)))

pub in_into : (rules : Rules) (lines : Listing) (i : ℕ) (p : Plan) (k : ℕ) → k < length lines
    → any (eqb k) (into rules lines i p) ≡ changes (volatile rules) i p k (lines at k)
in_into rules lines i p k h =
    by_cases (dec_lt i k)
    (λ b.
    (let s : suc i + (k - suc i) ≡ k = omega arith in
    let w = within (volatile rules) i p (k - suc i) (suc i) (drop (suc i) lines) (omega (arith, length-drop (suc i) lines)) in
    rw (s, get_or-drop (suc i) lines (k - suc i) blank, s) at w))
    (λ b. below (volatile rules) i p k (suc i) (drop (suc i) lines) (omega arith) ∙ not-later (volatile rules) i p k (lines at k) (omega arith))

-- ---- the lines that are noted

module _ {rules : Rules} {lines : Listing} {i : ℕ} {p : Plan} {f : Fam} {parts : List (std.Option Before)} (t : ToldBy rules lines i p f parts) where
  pub noted_is : (k : ℕ) → k < length lines → is_noted parts k ≡ changes (volatile rules) i p k (lines at k)
  noted_is k h =
      ap is_told (t.each k)
      ∙ by_test (changes (volatile rules) i p k (lines at k))
      (λ e. ap is_told (told_some rules lines i p f k e) ∙ sym e)
      (λ e. ap is_told (told_none rules lines i p f k e) ∙ sym e)

  pub notes : Notes lines parts (into rules lines i p)
  notes k h = let b : k < length lines = ltb-true k (length lines) h in in_into rules lines i p k b ∙ sym (noted_is k b)

  pub noted_early : (k : ℕ) → k < length lines → k ≤ i → is_noted parts k ≡ false
  noted_early k h b = noted_is k h ∙ sym (not-later (volatile rules) i p k (lines at k) b)

  places_from : (d k : ℕ) → k + d ≡ length lines → length parts ≡ length lines → noted_from k (drop k parts) ≡ changed_from (volatile rules) i p k (drop k lines)
  unfolding noted_from
  places_from zero k e n = rw (drop_all k parts (omega arith), drop_all k lines (omega arith)) (sym (changed_none (volatile rules) i p k))
  places_from (suc d) k e n =
      let b : k < length lines = omega arith in
      let rest = places_from d (suc k) (omega arith) n in
      rw (drop-cons parts k std.None (omega arith), drop-cons lines k blank b)
      (by_test (changes (volatile rules) i p k (lines at k))
      (λ c. if-true _ _ (noted_is k b ∙ c) ∙ ap (λ (ks : List ℕ). k ∷ ks) rest ∙ sym (changed_yes (volatile rules) i p k (lines at k) (drop (suc k) lines) c))
      (λ c. if-false _ _ (noted_is k b ∙ c) ∙ rest ∙ sym (changed_no (volatile rules) i p k (lines at k) (drop (suc k) lines) c)))

  pub last_is : i < length lines → length parts ≡ length lines → last_noted parts i ≡ get_or (reverse (into rules lines i p)) 0 i
  unfolding last_noted
  last_is h n =
      let d = length lines - suc i in
      ap (λ (ks : List ℕ). get_or (reverse ks) 0 i) (places_from d (suc i) (omega arith) n)

  -- ---- their kinds

  module _ (ways : Ways) (new : Listing) (long : length new + 1 ≡ length lines) (room : length lines ≤ length parts) where
    abbrev kinds_of : ℕ → ℕ
    kinds_of j = line_cautions rules lines ways i f p.expr j (new at moved i j).tokens

    moved_is : (q : ℕ) → i ≤ q → moved i (suc q) ≡ q
    unfolding moved
    moved_is q h = if-true _ _ (lt-ltb i (suc q) (omega arith))

    kinds_here : (q : ℕ) → i ≤ q → suc q < length lines → changes (volatile rules) i p (suc q) (lines at suc q) ≡ true
        → kinds_told (get_or parts (suc q) std.None) (new at q).tokens ≡ kinds_of (suc q)
    kinds_here q h b c =
        ap (λ (t : std.Option Before). kinds_told t (new at q).tokens) (t.each (suc q) ∙ told_some rules lines i p f (suc q) c)
        ∙ sym (line_parts rules lines ways i f p.expr (suc q) (new at q).tokens)
        ∙ ap (λ (k : ℕ). line_cautions rules lines ways i f p.expr (suc q) (new at k).tokens) (sym (moved_is q h))

    kinds_not : (q : ℕ) → suc q < length lines → changes (volatile rules) i p (suc q) (lines at suc q) ≡ false
        → kinds_told (get_or parts (suc q) std.None) (new at q).tokens ≡ 0
    kinds_not q b c = ap (λ (t : std.Option Before). kinds_told t (new at q).tokens) (t.each (suc q) ∙ told_none rules lines i p f (suc q) c)

    kinds_upto : (d q : ℕ) → q + d ≡ length new → i ≤ q
        → kinds_from (drop (suc q) parts) (drop q new) ≡ union (map kinds_of (changed_from (volatile rules) i p (suc q) (drop (suc q) lines)))
    unfolding kinds_from union
    kinds_upto zero q e h =
        rw (drop_all q new (omega arith), drop_all (suc q) lines (omega arith))
        (none (drop (suc q) parts) ∙ ap (λ (ks : List ℕ). union (map kinds_of ks)) (sym (changed_none (volatile rules) i p (suc q))))
      where
        none : (ts : List (std.Option Before)) → kinds_from ts [] ≡ 0
        none [] = refl
        none (t ∷ ts) = refl
    kinds_upto (suc d) q e h =
        let b : suc q < length lines = omega arith in
        let rest = kinds_upto d (suc q) (omega arith) (omega arith) in
        ap (λ (ts : List (std.Option Before)). kinds_from ts (drop q new)) (drop-cons parts (suc q) std.None (omega arith))
        ∙ ap (kinds_from (get_or parts (suc q) std.None ∷ drop (suc (suc q)) parts)) (drop-cons new q blank (omega arith))
        ∙ by_test (changes (volatile rules) i p (suc q) (lines at suc q))
        (λ c.
        ap (λ (s : ℕ). s ∪ kinds_from (drop (suc (suc q)) parts) (drop (suc q) new)) (kinds_here q h b c)
        ∙ ap (λ (s : ℕ). kinds_of (suc q) ∪ s) rest
        ∙ sym (ap (λ (ks : List ℕ). union (map kinds_of ks)) (ap (changed_from (volatile rules) i p (suc q)) (drop-cons lines (suc q) blank b)
        ∙ changed_yes (volatile rules) i p (suc q) (lines at suc q) (drop (suc (suc q)) lines) c)))
        (λ c.
        ap (λ (s : ℕ). s ∪ kinds_from (drop (suc (suc q)) parts) (drop (suc q) new)) (kinds_not q b c)
        ∙ rest
        ∙ sym (ap (λ (ks : List ℕ). union (map kinds_of ks)) (ap (changed_from (volatile rules) i p (suc q)) (drop-cons lines (suc q) blank b)
        ∙ changed_no (volatile rules) i p (suc q) (lines at suc q) (drop (suc (suc q)) lines) c)))

    pub kinds_all : i < length lines → kinds_from (drop (suc i) parts) (drop i new) ≡ union (map kinds_of (into rules lines i p))
    kinds_all h = let d = length new - i in kinds_upto d i (omega arith) (omega arith)
