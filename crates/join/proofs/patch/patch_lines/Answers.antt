-- `join::patch::patch_lines` meets its contract. Assumes nothing.
use Prim.Native.Nat.{◌<◌}
use native.Mathlib.Omega.{arith}
use mathlib.Core.Path.{◌≡◌, refl}
use lib.ListN.{length}
use Rattle.build.proofs.Lending.{lent_same, lent_then}
use Rattle.join.proofs.Placing.{rewritable, placed_rewritten}
use Rattle.join.proofs.Rows.{last-inside}
use Rattle.join.proofs.Sparing.{spare_as}
use Rattle.join.proofs.Carrying.{carry-begun, carry-kept, carry-taken, carried, origin_small, low_at, high_at}
use Rattle.join.proofs.Patching.{same_word, next-inside, placeable_now, patch_begun, patch_kept, patch_placed, patched}
use Rattle.join.proofs.patch.patch_lines.Goals as goal
use Rattle.join.proofs.patch.patch_lines.Goals.{then-is_changed, else-is_changed}

pub loop-k-init : goal.loop-k-init
loop-k-init c =
    let b = c.args.second.now in
    let p = c.requires in
    record { inside = omega (arith, p.0.inside); patching = patch_begun p.0 b.size p.1 p.2 b.area.now b.tokens.now; carrying = carry-begun _ _ _ _ _ _ _ _ _ _; lent = lent_same }

pub is_changed-requires : goal.is_changed-requires
is_changed-requires c =
    let a = c.args in
    let p = c.requires in
    let l = c.loop-k in
    let i = l.invariant.patching in
    let b : l.k < length a.lines.now = next-inside p.0 a.second.now.size p.1 p.2 i (omega arith) in
    (rw (same_word p.0 a.second.now.size p.1 p.2 i) (p.0.listed.at l.k b), p.0.joins.known)

pub take_in-requires : goal.take_in-requires
take_in-requires c = omega (arith, origin_small _ c.origin-then-is_changed.ensures, c.loop-k.auto.marks, c.requires.4)

pub rewrite_line-requires : goal.rewrite_line-requires
rewrite_line-requires c =
    let p = c.requires in
    let i = c.loop-k.invariant in
    rw c.substitution.ensures
    (rewritable (placeable_now p.0 c.args.second.now.size p.1 p.2 i.patching (omega arith) (λ e. omega arith) refl (spare_as p.3 i.lent.area_length i.lent.tokens_length))
    (c.is_changed.ensures _) c.if-is_changed.true)

pub loop-k-preserved : goal.loop-k-preserved
loop-k-preserved c =
    let a = c.args in
    let p = c.requires in
    let l = c.loop-k in
    let i = l.invariant.patching in
    let lent = l.invariant.lent in
    let from = a.second.now.size in
    let n : l.k ≡ a.j.line → ⊥ = λ e. omega arith in
    let same = same_word p.0 from p.1 p.2 i in
    let inside : l.k < length a.lines.now = next-inside p.0 from p.1 p.2 i (omega arith) in
    let is = rw same at c.is_changed.ensures in
    let m = l.invariant.carrying in
    record {
      inside = omega (arith, last-inside p.0);
      patching = elim c.if-is_changed.branch [
        | then-is_changed w ↦
            let e = w.rewrite_line.ensures in
            let now = lent_then lent e.lent in
            rw (w.lines-is, w.second-is)
            (patch_placed p.0 from p.1 p.2 i (omega arith) n refl
            (placed_rewritten (placeable_now p.0 from p.1 p.2 i (omega arith) n refl (spare_as p.3 lent.area_length lent.tokens_length)) (c.is_changed.ensures _) w.if-is_changed.true
            (rw w.substitution.ensures at e.rewritten))
            (spare_as p.3 now.area_length now.tokens_length))
        | else-is_changed w ↦
            rw (w.lines-is, w.second-is) (patch_kept p.0 from p.1 p.2 i (omega arith) (c.is_changed.ensures _) w.if-is_changed.false)
      ];
      carrying = elim c.if-is_changed.branch [
        | then-is_changed w ↦
            let taken = w.take_in.ensures in
            rw w.marks-is (carry-taken _ _ _ _ _ _ _ _ _ _ m inside is w.if-is_changed.true (rw same at w.origin-then-is_changed.ensures) taken.lows_after taken.highs_after)
        | else-is_changed w ↦ rw w.marks-is (carry-kept _ _ _ _ _ _ _ _ _ _ m inside is w.if-is_changed.false)
      ];
      lent = elim c.if-is_changed.branch [
        | then-is_changed w ↦ rw w.second-is (lent_then lent w.rewrite_line.ensures.lent)
        | else-is_changed w ↦ rw w.second-is lent
      ];
    }

pub returns-clause-patched : goal.returns-clause-patched
returns-clause-patched c =
    let p = c.requires in
    let i = c.loop-k.invariant in
    patched p.0 c.args.second.now.size p.1 p.2 i.patching (omega arith) (omega arith) i.inside c.remove_word.auto.lines c.remove_word.ensures

pub returns-clause-carried : goal.returns-clause-carried
returns-clause-carried c =
    carried _ _ _ _ _ _ _ _ _ _ c.loop-k.invariant.carrying (rw (low_at, c.origin.ensures)) (rw (high_at, c.origin.ensures)) (omega arith) (omega arith)
