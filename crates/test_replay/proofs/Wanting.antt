-- What the lent parts hold afterwards, by the tests that the code makes. Assumes nothing.
use Prim.Native.Nat.{ℕ, ◌≤◌, ◌<◌}
use native.Mathlib.Nat.{zero-add}
use mathlib.Core.Path.{◌≡◌, refl, sym, ap, ◌∙◌}
use mathlib.Core.Bool.{Bool, true, false, ◌&&◌}
use mathlib.Core.List.{List, ◌++◌}
use lib.Dec.{eqb}
use lib.ListN.{length, drop, replicate}
use lib.Seq.{paste, take-length}
use borrow.Author.Tests.{eq-eqb, ne_eqb, le-leb, lt-leb}
use Rattle.laws.proofs.Scans.{if-true, if-false}
use Rattle.laws.proofs.Std.{and-std}
use Rattle.reference.specs.Control.{◌and◌}
use Rattle.reference.specs.Reply.{Report}
use Rattle.puchkewa.specs.declared.export.Report.{Report as Wanted}
use Rattle.puchkewa.specs.Exports.{exported}
use Rattle.test_replay.specs.Frames.{number_in, output_in}
use Rattle.test_replay.specs.Answers.{wanted_in, is_wanted, work_wanted, out_wanted, all_right, is_right}

module _ (list : List ℕ) {n : ℕ} (e : n ≡ number_in list 6) where
  pub wiped : (area : List ℕ) {area' : List ℕ} → n ≡ 0 → area' ≡ replicate 49152 0 ++ drop 49152 area → area' ≡ work_wanted list area
  unfolding work_wanted
  wiped area t w = w ∙ sym (if-true _ _ (eq-eqb _ 0 (sym e ∙ t)))

  pub left_alone : (area : List ℕ) → (n ≡ 0 → ⊥) → area ≡ work_wanted list area
  unfolding work_wanted
  left_alone area f = sym (if-false _ _ (ne_eqb _ 0 (λ t. f (e ∙ t))))

module _ (list : List ℕ) {wanted : List ℕ} (e : wanted ≡ output_in list) where
  pub has_room : (out : List ℕ) {out' : List ℕ} → length wanted ≤ length out → out' ≡ paste out 0 wanted (length wanted) → out' ≡ out_wanted list out
  unfolding out_wanted
  has_room out h p = p ∙ rw e (sym (if-true _ _ (le-leb _ _ (rw e at h))))

  pub has_no-room : (out : List ℕ) → length out < length wanted → out ≡ out_wanted list out
  unfolding out_wanted
  has_no-room out h = sym (if-false _ _ (lt-leb _ _ (rw e at h)))

-- a part copied to the front
pub copied : (out part : List ℕ) → part ++ drop (length part) out ≡ paste out 0 part (length part)
copied out part = rw (zero-add (length part), take-length)

-- what is wanted is made from parts that hold 170 everywhere
pub from-marks : (list : List ℕ) (r : Report) (work_a work_b out : List ℕ) {b : Bool} {work written : List ℕ} → work ≡ work_wanted list (replicate 65600 170)
    → written ≡ out_wanted list (replicate 59200 170) → b ≡ all_right list r work_a work_b out work written → b ≡ is_right list r work_a work_b out
unfolding is_right
from-marks list r work_a work_b out w o e = rw (w, o) at e

-- ---- the report

-- ten tests in the order of the C interface's fields, and as the definition has them
reordered : (a b c d e f g h i j : Bool) → (a && (b && (c && (d && (e && (f && (g && (h && (i && j)))))))))
    ≡ ((a and b and c and h) and ((d and e and f and g) and (i and j)))
unfolding ◌and◌
reordered false b c d e f g h i j = refl
reordered true false c d e f g h i j = refl
reordered true true false d e f g h i j = refl
reordered true true true false e f g false i j = refl
reordered true true true false e f g true i j = refl
reordered true true true true false f g false i j = refl
reordered true true true true false f g true i j = refl
reordered true true true true true false g false i j = refl
reordered true true true true true false g true i j = refl
reordered true true true true true true false false i j = refl
reordered true true true true true true false true i j = refl
reordered true true true true true true true false i j = refl
reordered true true true true true true true true i j = and-std i j

pub compares_reports : (list : List ℕ) {w g : Wanted} {r : Report} {b : Bool} → w ≡ wanted_in list → exported g ≡ r
    → b ≡ (eqb w.refusal g.refusal && (eqb w.place g.place && (eqb w.length g.length && (eqb w.attempts_1 g.attempts_1 && (eqb w.attempts_2 g.attempts_2
    && (eqb w.attempts_3 g.attempts_3 && (eqb w.removed g.removed && (eqb w.cut g.cut && (eqb w.rounds g.rounds && eqb w.attempts g.attempts)))))))))
    → b ≡ is_wanted list r
compares_reports list e x h = (rw e at h) ∙ reordered _ _ _ _ _ _ _ _ _ _ ∙ ap (is_wanted list) x
