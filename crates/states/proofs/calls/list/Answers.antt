-- `states::calls::list` meets its contract. Assumes nothing.
use Rattle.std.proofs.Common.{sym, ap, ◌∙◌}
use Rattle.std.proofs.lemmas.Result.{err_from_is_err_and}
use Rattle.reference.specs.Questions.{Passed}
use Rattle.states.specs.Answers.{opened_of}
use Rattle.states.proofs.Deciding.{whole_room, list_refused, list-passed}
use Rattle.states.proofs.calls.list.Goals as goal

pub returns-in_err-cells : goal.returns-in_err-cells
returns-in_err-cells c =
    let p = err_from_is_err_and c.from_residual.result c.from_residual.ensures.1 in
    rw (p.1, p.2)
    (sym (list_refused c.args.store.now c.args.i (whole_room c.args.store.now) (sym c.opened.ensures.answer ∙ ap opened_of c.in_err-cells.was)))

pub returns : goal.returns
returns c =
    ap Passed (rw c.in_ok-cells.ensures.same at c.entry_at.ensures)
    ∙ sym (list-passed c.args.store.now c.args.i (whole_room c.args.store.now) (sym c.opened.ensures.answer ∙ ap opened_of c.in_ok-cells.was))
