-- `arguments::base_names::clash` meets its contract. Assumes nothing.
use Rattle.std.proofs.Common.{sym, ◌∙◌, arith}
use Rattle.arguments.proofs.Turns.{clash_by, clash_begin, clash_end}
use Rattle.arguments.proofs.base_names.clash.Goals as goal

pub loop-word-init : goal.loop-word-init
loop-word-init c = record { room = omega arith; same = clash_begin _ c.begin-s.ensures }

pub returns-in-Some-taken_later : goal.returns-in-Some-taken_later
returns-in-Some-taken_later c =
    let found = rw c.is_at.ensures at c.taken_later.ensures in
    sym (c.loop-word.invariant.same ∙ clash_by _ _ _ c.in-Some.ensures.splits _ _ _ c.step-s.ensures _ (sym c.in-Some-taken_later.is ∙ found))

pub loop-word-preserved : goal.loop-word-preserved
loop-word-preserved c =
    let found = rw c.is_at.ensures at c.taken_later.ensures in
    record {
      room = omega (arith, c.in-Some.ensures.falls);
      same = c.loop-word.invariant.same ∙ clash_by _ _ _ c.in-Some.ensures.splits _ _ _ c.step-s.ensures _ (sym c.in_default-taken_later.is ∙ found);
    }

pub returns : goal.returns
returns c = sym (c.loop-word.invariant.same ∙ clash_end _ _ _ c.in_default.ensures)
