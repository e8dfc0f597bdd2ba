-- Marks handed on, line after line: the places that were picked out so far, then those to come, are all that the plan changes. Assumes nothing.
use Prim.Native.Nat.{ℕ, suc, ◌+◌, ◌≤◌, ◌<◌, min, max}
use native.Mathlib.Omega.{arith}
use native.Mathlib.Numerals.{add-one}
use mathlib.Core.Path.{◌≡◌, refl, sym, ap, ◌∙◌}
use mathlib.Core.Bool.{Bool, true, false}
use mathlib.Core.List.{List, [], ◌∷◌, ◌++◌, map-append, append-nil}
use lib.ListN.{length, get_or, set, drop, length-map, get_or-map}
use lib.Seq.{drop-cons, append_snoc}
use Rattle.reference.specs.Text.{Text}
use Rattle.reference.specs.Listing.{Line, Listing, blank}
use Rattle.reference.specs.Rules.{Rules, volatile}
use Rattle.joining.specs.Plan.{Plan, changes}
use Rattle.joining.proofs.Uses.{uses_upto}
use Rattle.joining.proofs.Acting.{changes-later}
use Rattle.laws.proofs.Scans.{if-true, if-false}
use Rattle.lines.specs.declared.marks.Marks.{Marks}
use Rattle.lines.specs.Marks.{lows_of, highs_of}
use Rattle.lines.specs.Lines.{origin_of, part_of, bare_in, bare_listing}
use Rattle.lines.proofs.words.Lines.{origin_below, bare_at}
use Rattle.plan.specs.declared.plans.Join.{Join}
use Rattle.plan.specs.Plans.{join_in}
use Rattle.join.specs.Building.{plan_of}
use Rattle.join.specs.Carrying.{lowered, raised, origins_at, picked, changed_by, Carried}
use Rattle.plan.proofs.Changed.{past_last}

-- ---- the places that are picked out

module _ (p : ℕ → Line → Bool) where
  picked_none : (k : ℕ) (ls : Listing) → ((m : ℕ) (l : Line) → k ≤ m → p m l ≡ false) → picked p k ls ≡ []
  unfolding picked
  picked_none k [] h = refl
  picked_none k (l ∷ ls) h = if-false _ _ (h k l (omega arith)) ∙ picked_none (suc k) ls (λ m l b. h m l (omega arith))

  module _ (k : ℕ) (ls : Listing) (b : k < length ls) where
    picked_here : p k (get_or ls k blank) ≡ true → picked p k (drop k ls) ≡ k ∷ picked p (k + 1) (drop (k + 1) ls)
    unfolding picked
    picked_here e = ap (picked p k) (drop-cons ls k blank b) ∙ if-true _ _ e ∙ rw (add-one k)

    picked-later : p k (get_or ls k blank) ≡ false → picked p k (drop k ls) ≡ picked p (k + 1) (drop (k + 1) ls)
    unfolding picked
    picked-later e = ap (picked p k) (drop-cons ls k blank b) ∙ if-false _ _ e ∙ rw (add-one k)

-- the places that a plan changes are its uses
pub picked_uses : (vol : List Text) (i : ℕ) (p : Plan) (k : ℕ) (ls : Listing) → i < k → picked (changes vol i p) k ls ≡ uses_upto p.fam vol p.last k ls
unfolding picked uses_upto
picked_uses vol i p k [] h = refl
picked_uses vol i p k (l ∷ ls) h = rw (changes-later vol i p k l h, picked_uses vol i p (suc k) ls (omega arith))

-- ---- a place in the table of marks

pub low_at : (marks : List Marks) (k : ℕ) → (get_or marks k (record { low = 0; high = 0 })).low ≡ get_or (lows_of marks) k 0
low_at marks k = sym (get_or-map (λ (m : Marks). m.low) marks k (record { low = 0; high = 0 }))

pub high_at : (marks : List Marks) (k : ℕ) → (get_or marks k (record { low = 0; high = 0 })).high ≡ get_or (highs_of marks) k 0
high_at marks k = sym (get_or-map (λ (m : Marks). m.high) marks k (record { low = 0; high = 0 }))

-- ---- one line more

lowered_snoc : (low : ℕ) (os : List ℕ) (o : ℕ) (lows : List ℕ)
    → lowered low (os ++ (o ∷ [])) lows ≡ set (lowered low os lows) o (min (get_or (lowered low os lows) o 0) low)
unfolding lowered
lowered_snoc low [] o lows = refl
lowered_snoc low (first ∷ os) o lows = lowered_snoc low os o _

raised_snoc : (high : ℕ) (os : List ℕ) (o : ℕ) (highs : List ℕ)
    → raised high (os ++ (o ∷ [])) highs ≡ set (raised high os highs) o (max (get_or (raised high os highs) o 0) high)
unfolding raised
raised_snoc high [] o highs = refl
raised_snoc high (first ∷ os) o highs = raised_snoc high os o _

pub origin_small : {r : ℕ} (l : ℕ) → r ≡ origin_of l → r < 256
origin_small l e = rw e (origin_below l)

-- the lines before line `next` are done
pub record Carrying (rules : Rules) (tape old : Text) (words lines : List ℕ) (j : Join) (lows₀ highs₀ : List ℕ) (low high next : ℕ)
    (lows highs : List ℕ) : Type 0 where
  pub done : List ℕ
  pub rest : changed_by rules tape old words lines j
      ≡ done ++ picked (changes (volatile rules) j.line (plan_of tape old words lines j)) next (drop next (bare_listing tape old words lines))
  pub lows_are : lows ≡ lowered low (origins_at lines done) lows₀
  pub highs_are : highs ≡ raised high (origins_at lines done) highs₀

module _ (rules : Rules) (tape old : Text) (words lines : List ℕ) (j : Join) (lows₀ highs₀ : List ℕ) (low high : ℕ) where
  abbrev by_plan : ℕ → Line → Bool
  by_plan = changes (volatile rules) j.line (plan_of tape old words lines j)

  abbrev bare_old : Listing
  bare_old = bare_listing tape old words lines

  pub carry-begun : Carrying rules tape old words lines j lows₀ highs₀ low high (j.line + 1) lows₀ highs₀
  unfolding lowered raised
  carry-begun = record { done = []; rest = rw (add-one j.line); lows_are = refl; highs_are = refl }

  module _ {next : ℕ} {lows highs : List ℕ} (u : Carrying rules tape old words lines j lows₀ highs₀ low high next lows highs) where
    module _ (b : next < length lines) {r : Bool}
        (is : (source : List ℕ) → r ≡ changes (volatile rules) j.line (join_in tape old source j) next (bare_in tape old words (get_or lines next 0))) where
      tested : {x : Bool} → r ≡ x → by_plan next (get_or bare_old next blank) ≡ x
      tested e = rw (bare_at tape old words [] lines next b) (sym (is (part_of words (get_or lines j.line 0))) ∙ e)

      inside : next < length bare_old
      inside = rw length-map b

      pub carry-kept : r ≡ false → Carrying rules tape old words lines j lows₀ highs₀ low high (next + 1) lows highs
      carry-kept e =
          record {
            done = u.done;
            rest = u.rest ∙ ap (λ (more : List ℕ). u.done ++ more) (picked-later by_plan next bare_old inside (tested e));
            lows_are = u.lows_are;
            highs_are = u.highs_are;
          }

      pub carry-taken : r ≡ true → {o : ℕ} {lows' highs' : List ℕ} → o ≡ origin_of (get_or lines next 0)
          → lows' ≡ set lows o (min (get_or lows o 0) low) → highs' ≡ set highs o (max (get_or highs o 0) high)
          → Carrying rules tape old words lines j lows₀ highs₀ low high (next + 1) lows' highs'
      carry-taken e {o} eo el eh =
          let more : origins_at lines (u.done ++ (next ∷ [])) ≡ origins_at lines u.done ++ (o ∷ []) =
          map-append (λ k. origin_of (get_or lines k 0)) u.done (next ∷ []) ∙ rw eo in
          record {
            done = u.done ++ (next ∷ []);
            rest =
                u.rest
                ∙ ap (λ (more : List ℕ). u.done ++ more) (picked_here by_plan next bare_old inside (tested e))
                ∙ sym (append_snoc u.done next _);
            lows_are = el ∙ rw (more, u.lows_are) (sym (lowered_snoc low (origins_at lines u.done) o lows₀));
            highs_are = eh ∙ rw (more, u.highs_are) (sym (raised_snoc high (origins_at lines u.done) o highs₀));
          }

    all_done : j.line < next → j.last < next → u.done ≡ changed_by rules tape old words lines j
    all_done a l =
        sym (u.rest
        ∙ ap (λ (more : List ℕ). u.done ++ more)
        (picked_none by_plan next _ (λ m x b. sym (past_last (volatile rules) j.line (plan_of tape old words lines j) m x (omega arith) (omega arith))))
        ∙ append-nil u.done)

    pub carried : low ≡ get_or lows₀ (origin_of (get_or lines j.line 0)) 0 → high ≡ get_or highs₀ (origin_of (get_or lines j.line 0)) 0
        → j.line < next → j.last < next → Carried rules tape old words lines j lows₀ highs₀ lows highs
    carried el eh a l =
        record {
          lows_are = u.lows_are ∙ rw (el, all_done a l);
          highs_are = u.highs_are ∙ rw (eh, all_done a l);
        }
