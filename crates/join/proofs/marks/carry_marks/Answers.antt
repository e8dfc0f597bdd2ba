-- `join::marks::carry_marks` meets its contract. Assumes nothing.
use Prim.Native.Nat.{◌<◌}
use native.Mathlib.Omega.{arith}
use mathlib.Core.Path.{◌≡◌, ◌∙◌}
use lib.ListN.{length, get_or, length-take}
use Rattle.std.proofs.lemmas.List.{get_or-take}
use Rattle.lines.specs.Lines.{origin_of}
use Rattle.join.specs.Current.{used_lines}
use Rattle.join.proofs.Lending.{same_listing}
use Rattle.join.proofs.Rows.{last-inside}
use Rattle.join.proofs.Carrying.{carry-begun, carry-kept, carry-taken, carried, low_at, high_at}
use Rattle.join.proofs.marks.carry_marks.Goals as goal
use Rattle.join.proofs.marks.carry_marks.Goals.{then-is_target, else-is_target}

pub loop-k-init : goal.loop-k-init
loop-k-init c = record {
  inside = omega (arith, c.requires.0.inside, length-take c.args.size.lines c.args.room.now.lines.now);
  carrying = carry-begun _ _ _ _ _ _ _ _ _ _;
  rest = same_listing;
}

pub is_target-requires : goal.is_target-requires
is_target-requires c =
    let p = c.requires in
    let s = c.loop-k.invariant.rest in
    rw (s.area_is, s.tokens_are, s.lines_are) (p.1, omega (arith, last-inside p.0, length-take c.args.size.lines c.args.room.now.lines.now), p.0.joins.known)

pub loop-k-preserved : goal.loop-k-preserved
loop-k-preserved c =
    let l = c.loop-k in
    let i = l.invariant in
    let s = i.rest in
    let lines = c.args.room.now.lines.now in
    let n = c.args.size.lines in
    let inside : l.k < length (used_lines lines c.args.size) = omega (arith, last-inside c.requires.0) in
    let below : l.k < n = omega (arith, length-take n lines) in
    let is = rw (s.area_is, s.tokens_are, s.lines_are) at c.is_target.ensures in
    record {
      inside = omega arith;
      carrying = elim c.if-is_target.branch [
        | then-is_target w ↦
            let taken = w.take_in.ensures in
            let o : w.origin-then-is_target.result ≡ origin_of (get_or (used_lines lines c.args.size) l.k 0) = w.origin-then-is_target.ensures ∙ rw (s.lines_are, get_or-take n lines l.k 0 below) in
            rw w.room-is (carry-taken _ _ _ _ _ _ _ _ _ _ i.carrying inside is w.if-is_target.true o taken.lows_after taken.highs_after)
        | else-is_target w ↦ rw w.room-is (carry-kept _ _ _ _ _ _ _ _ _ _ i.carrying inside is w.if-is_target.false)
      ];
      rest = elim c.if-is_target.branch [
        | then-is_target w ↦ rw w.room-is (record {
          area_is = s.area_is;
          tokens_are = s.tokens_are;
          lines_are = s.lines_are;
          area2_is = s.area2_is;
          tokens2_are = s.tokens2_are;
          marks_are = s.marks_are;
          marks_length = w.take_in.auto.marks ∙ s.marks_length;
        })
        | else-is_target w ↦ rw w.room-is s
      ];
    }

pub returns-clause-carried : goal.returns-clause-carried
returns-clause-carried c =
    let lines = c.args.room.now.lines.now in
    let n = c.args.size.lines in
    let inside : c.args.j.line < n = omega (arith, c.requires.0.inside, length-take n lines) in
    let here = get_or-take n lines c.args.j.line 0 inside in
    carried _ _ _ _ _ _ _ _ _ _ c.loop-k.invariant.carrying (rw (low_at, c.origin.ensures, here)) (rw (high_at, c.origin.ensures, here)) (omega arith) (omega arith)
