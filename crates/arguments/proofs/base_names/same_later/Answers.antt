-- `arguments::base_names::same_later` meets its contract. Assumes nothing.
use Rattle.std.proofs.Common.{sym, ◌∙◌, arith}
use Rattle.arguments.proofs.Turns.{later_here, later_on, later_end}
use Rattle.arguments.proofs.base_names.same_later.Goals as goal

pub returns-then-is_taken_same : goal.returns-then-is_taken_same
returns-then-is_taken_same c =
    sym (c.loop-word.invariant.same ∙ later_here _ _ _ c.in-Some.ensures.splits _ _ _ c.step-t.ensures _ (sym c.is_taken_same.ensures ∙ c.if-is_taken_same.true))

pub loop-word-preserved : goal.loop-word-preserved
loop-word-preserved c = record {
  room = omega (arith, c.in-Some.ensures.falls);
  same = c.loop-word.invariant.same ∙ later_on _ _ _ c.in-Some.ensures.splits _ _ _ c.step-t.ensures _ (sym c.is_taken_same.ensures ∙ c.if-is_taken_same.false);
}

pub returns : goal.returns
returns c = sym (c.loop-word.invariant.same ∙ later_end _ _ _ _ c.in_default.ensures)
