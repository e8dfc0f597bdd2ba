-- `formula::evaluators::expression` and `term`, which call each other, meet their contracts. Assumes nothing.
use Rattle.std.proofs.Common.{rules}
use Rattle.formula.proofs.Ahead.{leads_placed}
use Rattle.formula.proofs.Left.{inside}
use Rattle.formula.proofs.Evaluating as E
use Rattle.formula.proofs.evaluators.+expression_term.Goals as goal

pub expression-loop-value-init : goal.expression-loop-value-init
expression-loop-value-init t c = (search (rules, E.joining_begins), search rules, search rules)

pub expression-term-requires : goal.expression-term-requires
expression-term-requires t c = (search (rules, E.below_turn), search rules)

pub expression-returns-in_err-value : goal.expression-returns-in_err-value
expression-returns-in_err-value t c = rw c.from_residual.ensures (search (rules, E.expression-broken))

pub expression-operator-requires : goal.expression-operator-requires
expression-operator-requires t c = (search rules, E.worth-in-line _ _ _ _ c.term.ensures _ c.in_ok-value.was)

pub expression-returns-in_default : goal.expression-returns-in_default
expression-returns-in_default t c = search (rules, E.expression-over)

pub expression-loop-value-smaller : goal.expression-loop-value-smaller
expression-loop-value-smaller t c =
    E.next-less _ _ _ _ c.requires.0 _ _ c.loop-value.invariant.1 c.requires.2 c.term.ensures _ c.in_ok-value.was c.operator.ensures _ c.in-Some.is

pub expression-loop-value-preserved : goal.expression-loop-value-preserved
expression-loop-value-preserved t c = (
  search (rules, E.joining_goes),
  search (rules, E.next_placed),
  E.next-within _ _ _ _ c.requires.0 _ _ c.loop-value.invariant.1 c.requires.2 c.term.ensures _ c.in_ok-value.was c.operator.ensures _ c.in-Some.is _ c.loop-value.invariant.2,
)

pub term-returns-then-line-place : goal.term-returns-then-line-place
term-returns-then-line-place t c = search (rules, E.term_past)

pub term-returns-then-kind-ne-PUNCT : goal.term-returns-then-kind-ne-PUNCT
term-returns-then-kind-ne-PUNCT t c = search (rules, E.term-worth)

pub term-behind-requires : goal.term-behind-requires
term-behind-requires t c = (search rules, search (rules, inside))

pub term-returns-in_err-inner : goal.term-returns-in_err-inner
term-returns-in_err-inner t c =
    rw c.from_residual.ensures (E.term_unopened _ _ _ _ (search rules) _ _ (search rules) (search rules) c.kind.ensures (search rules) c.behind.ensures c.in_err-inner.was)

pub term-expression-requires : goal.term-expression-requires
term-expression-requires t c = (search (rules, E.below_bracket, E.opens-shorter), (search rules, search rules, search rules, search (rules, leads_placed)))

pub term-returns-in_err-value : goal.term-returns-in_err-value
term-returns-in_err-value t c = rw c.from_residual-in_err-value.ensures (search (rules, E.term-broken))

pub term-behind-requires-2 : goal.term-behind-requires-2
term-behind-requires-2 t c = (search rules, E.worth-in-line _ _ _ _ c.expression.ensures _ c.in_ok-value.was)

pub term-returns-in_err-end : goal.term-returns-in_err-end
term-returns-in_err-end t c = rw c.from_residual-in_err-end.ensures (search (rules, E.term_unclosed))

pub term-returns : goal.term-returns
term-returns t c = search (rules, E.term_closed)
