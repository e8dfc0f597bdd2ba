-- `formula::evaluators::evaluate` meets its contract. Assumes nothing.
use Rattle.formula.proofs.Ahead.{leads_placed}
use Rattle.formula.proofs.Junk.{whole-junk, no_junk}
use Rattle.formula.proofs.Evaluating.{worth-in-line}
use Rattle.formula.proofs.Whole.{begin-in-line, whole_unbegun, whole-broken, whole_unended, whole_more, whole-ended}
use Rattle.std.proofs.Common.{rules}
use Rattle.formula.proofs.evaluators.evaluate.Goals as goal

pub returns-then-has_junk : goal.returns-then-has_junk
returns-then-has_junk c = search (rules, whole-junk)

pub behind-requires : goal.behind-requires
behind-requires c = (search rules, begin-in-line c.requires.0)

pub returns-in_err-start : goal.returns-in_err-start
returns-in_err-start c = rw c.from_residual.ensures (search (rules, whole_unbegun))

pub expression-requires : goal.expression-requires
expression-requires c = (search rules, search (rules, no_junk), search rules, search (rules, leads_placed))

pub returns-in_err-value : goal.returns-in_err-value
returns-in_err-value c = rw c.from_residual-in_err-value.ensures (search (rules, whole-broken))

pub behind-requires-2 : goal.behind-requires-2
behind-requires-2 c = (search rules, worth-in-line _ _ _ _ c.expression.ensures _ c.in_ok-value.was)

pub returns-in_err-end : goal.returns-in_err-end
returns-in_err-end c = rw c.from_residual-in_err-end.ensures (search (rules, whole_unended))

pub returns-then-end-line : goal.returns-then-end-line
returns-then-end-line c = let start = c.in_ok-start in
    let value = c.in_ok-value in
    let end = c.in_ok-end in
    whole_more _ _ _ _ _ c.requires.0 c.behind.ensures start.start start.was c.expression.ensures value.value value.was c.behind-2.ensures end.end end.was c.if-end-line.true

pub returns : goal.returns
returns c = let start = c.in_ok-start in
    let value = c.in_ok-value in
    let end = c.in_ok-end in
    whole-ended _ _ _ _ _ c.requires.0 c.behind.ensures start.start start.was c.expression.ensures value.value value.was c.behind-2.ensures end.end end.was c.if-end-line.false
