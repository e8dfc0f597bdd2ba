-- `start::reckoning::run` meets its contract. Assumes nothing.
use borrow.Author.Rules.{rules}
use native.Mathlib.Omega.{arith}
use Rattle.start.proofs.Running.{some_line, running_first, begun-before, running-priced, running_next, begun-last, running_last, front_line, front_over}
use Rattle.start.proofs.reckoning.run.Goals as goal

pub overflow_sub-last : goal.overflow_sub-last
overflow_sub-last c = search (rules, some_line _ _ _ _ c.requires.0)

pub loop-line-init : goal.loop-line-init
loop-line-init c = running_first _ _ _ _ c.requires.0 _

pub assign_line-requires : goal.assign_line-requires
assign_line-requires c =
    let l = c.loop-line in
    let f = front_line c.args.formula.now.lines.now l.line-index c.loop-line-test.true in (
      c.requires.0.holds,
      rw f.1 (begun-before _ _ _ _ c.requires.0 _ _ _ l.invariant f.0),
      omega (arith, c.requires.1, l.invariant.long),
      running-priced _ _ _ _ c.requires.0 _ _ _ l.invariant c.requires.2,
    )

pub loop-line-preserved : goal.loop-line-preserved
loop-line-preserved c =
    let l = c.loop-line in
    let f = front_line c.args.formula.now.lines.now l.line-index c.loop-line-test.true in
    running_next _ _ _ _ c.requires.0 _ _ _ l.invariant f.0 _ c.assign_line.auto.values (rw f.1 at c.assign_line.ensures)

pub bounds-formula-last : goal.bounds-formula-last
bounds-formula-last c = search (rules, some_line _ _ _ _ c.requires.0)

pub returned-requires : goal.returned-requires
returned-requires c =
    let l = c.loop-line in
    let f = front_over c.args.formula.now.lines.now l.line-index l.invariant.inside c.loop-line-test.false in (
      begun-last _ _ _ _ c.requires.0 _ _ _ l.invariant _ f.0 f.1,
      omega (arith, c.requires.1, l.invariant.long),
      running-priced _ _ _ _ c.requires.0 _ _ _ l.invariant c.requires.2,
    )

pub returns : goal.returns
returns c =
    let l = c.loop-line in
    let f = front_over c.args.formula.now.lines.now l.line-index l.invariant.inside c.loop-line-test.false in
    running_last _ _ _ _ c.requires.0 _ _ _ l.invariant _ f.0 f.1 _ c.returned.ensures
