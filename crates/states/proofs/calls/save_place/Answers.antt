-- `states::calls::save_place` meets its contract. Assumes nothing.
use Rattle.states.proofs.Deciding.{save_unopened, save-unread, save-read, whole_room}
use Rattle.tape.proofs.questions.Reading.{refused_by, accepted_by}
use Rattle.tape.specs.Questions.{checked}
use Rattle.states.specs.Answers.{opened_of}
use Rattle.std.proofs.lemmas.Result.{err_from_is_err_and}
use mathlib.Core.Path.{sym, ap, ◌∙◌}
use Rattle.states.proofs.calls.save_place.Goals as goal

pub returns-in_err-cells : goal.returns-in_err-cells
returns-in_err-cells c = let p = err_from_is_err_and c.from_residual.result c.from_residual.ensures.1 in
    rw (p.1, p.2)
    (sym (save_unopened c.args.store.now c.args.name.now c.args.tape.now (whole_room c.args.store.now)
    (sym c.opened.ensures.answer ∙ ap opened_of c.in_err-cells.was)))

pub returns-in_err-check : goal.returns-in_err-check
returns-in_err-check c = let p = err_from_is_err_and c.from_residual-in_err-check.result c.from_residual-in_err-check.ensures.1 in
    rw (p.1, p.2)
    (sym (save-unread c.args.store.now c.args.name.now c.args.tape.now (whole_room c.args.store.now)
    (sym c.opened.ensures.answer ∙ ap opened_of c.in_ok-cells.was)
    (refused_by c.args.tape.now (sym (ap checked c.in_err-check.was) ∙ c.check.ensures))))

pub returns : goal.returns
returns c = let a = accepted_by c.args.tape.now (sym (ap checked c.in_ok-check.was) ∙ c.check.ensures) in
    rw c.in_ok-cells.ensures.same at c.place_for.ensures
    ∙ sym (save-read c.args.store.now c.args.name.now c.args.tape.now (whole_room c.args.store.now)
    (sym c.opened.ensures.answer ∙ ap opened_of c.in_ok-cells.was) a.reads)
