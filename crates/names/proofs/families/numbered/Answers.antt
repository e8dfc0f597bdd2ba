-- `names::families::numbered` meets its contract. Assumes nothing.
use Rattle.std.proofs.Common.{sym, ap, ◌∙◌, rules}
use Rattle.std.proofs.lemmas.List.{take_rest}
use Rattle.reference.specs.Names.{suffix}
use Rattle.names.proofs.Digits.{front-std, other-numbered, bare, most, unnumbered, with_number}
use Rattle.names.proofs.families.numbered.Goals as goal

pub returns-in_default : goal.returns-in_default
returns-in_default c = let s = c.args.s.now in rw (other-numbered s (sym (front-std s) ∙ c.in_default.ensures.cases)) c.stack_slot.ensures

pub returns-then-n-eq0 : goal.returns-then-n-eq0
returns-then-n-eq0 c =
    rw (bare c.args.s.now c.in-Some.ensures.cases c.digits-n.ensures c.if-n-eq0.true) c.stack_slot-then-n-eq0.ensures

pub slice_bounds-suffix-count : goal.slice_bounds-suffix-count
slice_bounds-suffix-count c = most c.args.s.now c.in-Some.ensures.cases c.digits-n.ensures

pub slice_bounds-suffix-start : goal.slice_bounds-suffix-start
slice_bounds-suffix-start c = let h = most c.args.s.now c.in-Some.ensures.cases c.digits-n.ensures in search rules

pub returns-in_err-width : goal.returns-in_err-width
returns-in_err-width c =
    rw c.from_residual.ensures (unnumbered c.args.s.now c.in-Some.ensures.cases c.digits-n.ensures c.if-n-eq0.false
    (c.in_err-width.ensures ∙ ap suffix (take_rest c.in-Some.rest.now _)))

pub overflow_add-result : goal.overflow_add-result
overflow_add-result c = let h = most c.args.s.now c.in-Some.ensures.cases c.digits-n.ensures in search rules

pub returns : goal.returns
returns c =
    with_number c.args.s.now c.in-Some.ensures.cases c.digits-n.ensures c.if-n-eq0.false
    (c.in_ok-width.ensures ∙ ap suffix (take_rest c.in-Some.rest.now _))
