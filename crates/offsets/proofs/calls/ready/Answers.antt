-- `offsets::calls::ready` meets its contract. Assumes nothing.
use Rattle.offsets.proofs.Answering.{ready_refused, ready_reach}
use Rattle.offsets.specs.contracts.calls.ready as code
use Rattle.tape.specs.Commands.{form_of}
use Rattle.tape.specs.Questions.{checked}
use Rattle.tape.proofs.questions.Reading.{refused_verdict, passed_verdict}
use Rattle.std.proofs.lemmas.Result.{err_from_is_err_and}
use denote.Param.{number}
use mathlib.Core.Path.{sym, ap, ◌∙◌}
use Rattle.offsets.proofs.calls.ready.Goals as goal

pub returns-in_err-check : goal.returns-in_err-check
returns-in_err-check g c = let a = c.args in
    let p = err_from_is_err_and c.from_residual.result c.from_residual.ensures.1 in
    rw (p.1, p.2)
    (ready_refused (code.BASED-type (number g.row.BASED)) a.base a.tape.now
    (refused_verdict (form_of (code.BASED-type (number g.row.BASED))) a.tape.now (sym (ap checked c.in_err-check.was) ∙ c.check.ensures)))

pub reach-requires : goal.reach-requires
reach-requires g c =
    let read = passed_verdict (form_of (code.BASED-type (number g.row.BASED))) c.args.tape.now (sym (ap checked c.in_ok-check.was) ∙ c.check.ensures) in
    record { lines = read.0; reads = read.1 }

pub returns : goal.returns
returns g c = let a = c.args in
    ready_reach (code.BASED-type (number g.row.BASED)) a.base a.tape.now
    (passed_verdict (form_of (code.BASED-type (number g.row.BASED))) a.tape.now (sym (ap checked c.in_ok-check.was) ∙ c.check.ensures)).1 c.reach.ensures
