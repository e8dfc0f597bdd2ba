-- The tally of a list, frame by frame: a loop's invariant is that the tally of the whole is that of the rest. Assumes nothing.
use Prim.Native.Nat.{ℕ, zero, suc, ◌+◌, ◌-◌, ◌≤◌}
use native.Mathlib.Omega.{arith}
use mathlib.Core.Path.{◌≡◌, refl, sym, ◌∙◌}
use mathlib.Core.Bool.{Bool, true, false}
use mathlib.Core.List.{List}
use lib.Dec.{eqb}
use lib.ListN.{length, take, drop, length-drop}
use borrow.Author.Tests.{eq-eqb, ne_eqb, eqb-false}
use Rattle.reference.specs.Control.{when◌then◌else◌}
use Rattle.laws.proofs.Parts.{to_end}
use Rattle.laws.proofs.Scans.{if-true, if-false}
use Rattle.test_replay.specs.Frames.{number_in, frame_size}
use Rattle.test_replay.specs.Tallies.{agrees_marked, counted, tally}
use Rattle.replays.specs.declared.Counts.{Counts}
use Rattle.test_replay.proofs.Framing.{cut_off}

-- ---- one frame

module _ (list : List ℕ) (class : ℕ) (n : Counts) where
  pub other_class : (number_in list 0 ≡ class → ⊥) → n ≡ counted list class n
  unfolding counted
  other_class h = sym (if-false _ _ (ne_eqb _ _ h))

  in_class : number_in list 0 ≡ class → (when agrees_marked list then record { calls = n.calls + 1; differ = n.differ } else record
      { calls = n.calls + 1; differ = n.differ + 1 }) ≡ counted list class n
  unfolding counted
  in_class same = sym (if-true _ _ (eq-eqb _ _ same))

  pub one_more : number_in list 0 ≡ class → {b : Bool} → b ≡ agrees_marked list → {m : Counts}
      → m ≡ (when b then record { calls = n.calls + 1; differ = n.differ } else record { calls = n.calls + 1; differ = n.differ + 1 })
      → m ≡ counted list class n
  one_more same e h = (rw e at h) ∙ in_class same

-- ---- all frames

same_else : (b : Bool) (n x y : Counts) → (b ≡ false → x ≡ y) → (when b then n else x) ≡ (when b then n else y)
unfolding when◌then◌else◌
same_else true n x y h = refl
same_else false n x y h = h refl

module _ (class : ℕ) where
  -- fuel that bounds the list's length is enough
  enough : (f g : ℕ) (list : List ℕ) (n : Counts) → length list ≤ f → length list ≤ g → tally f list class n ≡ tally g list class n
  unfolding tally
  enough zero zero list n hf hg = refl
  enough zero (suc g) list n hf hg = sym (if-true _ _ (eq-eqb _ _ (sym (cut_off list (omega arith)))))
  enough (suc f) zero list n hf hg = if-true _ _ (eq-eqb _ _ (sym (cut_off list (omega arith))))
  enough (suc f) (suc g) list n hf hg =
      same_else _ n _ _
      (λ some.
      let positive = eqb-false (frame_size list) 0 some in
      enough f g _ _ (rw (length-drop (frame_size list) list) (omega (arith, positive))) (rw (length-drop (frame_size list) list) (omega (arith, positive))))

  module _ (list : List ℕ) (n : Counts) where
    unfolded : tally (suc (length list)) list class n
        ≡ (when eqb (frame_size list) 0 then n else tally (length list) (drop (frame_size list) list) class (counted list class n))
    unfolding tally
    unfolded = refl

    step : tally (length list) list class n
        ≡ (when eqb (frame_size list) 0 then n else tally (length list) (drop (frame_size list) list) class (counted list class n))
    step = enough (length list) (suc (length list)) list n (omega arith) (omega arith) ∙ unfolded

    pub ended : frame_size list ≡ 0 → tally (length list) list class n ≡ n
    ended e = step ∙ if-true _ _ (eq-eqb _ _ e)

    -- what is left behind the frame is a part of the list
    pub turned : {k : ℕ} {m : Counts} → k ≡ frame_size list → (frame_size list ≡ 0 → ⊥) → m ≡ counted list class n
        → let left = take (length list - k) (drop k list) in
        tally (length list) list class n ≡ tally (length left) left class m
    turned {k} {m} e some q =
        step
        ∙ if-false _ _ (ne_eqb _ _ some)
        ∙ enough (length list) (length (drop (frame_size list) list)) _ _ (rw (length-drop (frame_size list) list) (omega arith)) (omega arith)
        ∙ rw (to_end k list, e, q)
