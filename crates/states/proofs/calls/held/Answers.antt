-- `states::calls::held` meets its contract. Assumes nothing.
use Rattle.std.proofs.Common.{sym, ap, ◌∙◌}
use Rattle.std.proofs.lemmas.Result.{err_from_is_err_and}
use Rattle.states.specs.Answers.{opened_of, cell_of}
use Rattle.states.proofs.Deciding.{held_refused, held-found}
use Rattle.states.proofs.calls.held.Goals as goal

pub returns-in_err-cells : goal.returns-in_err-cells
returns-in_err-cells c =
    let p = err_from_is_err_and c.from_residual.result c.from_residual.ensures.1 in
    rw (p.1, p.2)
    (sym (held_refused c.args.store.now c.args.name.now _ (sym c.opened.ensures.answer ∙ ap opened_of c.in_err-cells.was)))

pub returns : goal.returns
returns c =
    ap cell_of c.ok_or.ensures.value
    ∙ held-found c.args.store.now c.args.name.now _ c.named.result
    (sym c.opened.ensures.answer ∙ ap opened_of c.in_ok-cells.was) (rw c.in_ok-cells.ensures.same at c.named.ensures) c.at.ensures
