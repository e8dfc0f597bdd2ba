-- `test_replay::replayed` meets its contract: the tally of the list is that of what is left, and each frame counted took a byte or more. Assumes nothing.
use Prim.Native.Nat.{ℕ, ◌≤◌}
use native.Mathlib.Omega.{arith}
use mathlib.Core.Path.{◌≡◌, refl, sym, ◌∙◌}
use mathlib.Core.List.{List}
use lib.ListN.{length}
use Rattle.test_replay.specs.Frames.{said_size, frame_size}
use Rattle.test_replay.proofs.Framing.{whole, left_behind}
use Rattle.test_replay.proofs.Tallying.{ended, turned}
use borrow.Author.Rules.{rules}
use Rattle.test_replay.proofs.replayed.Goals as goal

-- the size of a whole frame is its own, and is not 0
is_own : (left : List ℕ) {n : ℕ} → (n ≡ said_size left) × (said_size left ≤ length left) → n ≡ frame_size left
is_own left e = e.0 ∙ whole left e.1

some : (left : List ℕ) {n : ℕ} → (n ≡ said_size left) × (said_size left ≤ length left) → frame_size left ≡ 0 → ⊥
some left e z = omega (arith, e.1, whole left e.1)

pub loop-n-init : goal.loop-n-init
loop-n-init c = (refl, search rules, search rules)

pub loop-n-smaller : goal.loop-n-smaller
loop-n-smaller c = omega (arith, c.in-Some.ensures.0, c.in-Some.ensures.1, left_behind c.loop-n.left.now c.in-Some.n)

pub loop-n-preserved : goal.loop-n-preserved
loop-n-preserved c =
    let l = c.loop-n in
    let e = c.in-Some.ensures in (
      l.invariant.0 ∙ turned _ l.left.now _ (is_own l.left.now e) (some l.left.now e) c.counted-counts.ensures.value,
      omega (arith, c.counted-counts.ensures.differ_le_calls, e.0, e.1, left_behind l.left.now c.in-Some.n),
      c.counted-counts.ensures.differ_le_calls.0,
    )

pub returns-clause-value : goal.returns-clause-value
returns-clause-value c = sym (c.loop-n.invariant.0 ∙ ended _ _ _ c.in_default.ensures)
