-- `editions::entry::to_2024` meets its contract. Assumes nothing.
use mathlib.Core.Path.{sym, ap, ◌∙◌}
use Rattle.std.proofs.lemmas.Result.{err_from_is_err_and}
use Rattle.tape.specs.Questions.{checked}
use Rattle.tape.proofs.questions.Reading.{refused_by, accepted_by}
use Rattle.editions.specs.Conversion.{up_token, earns_12}
use Rattle.editions.proofs.Replying.{no_room, not-accepted}
use Rattle.editions.proofs.entry.to_2024.Goals as goal

pub returns-then-out-tape : goal.returns-then-out-tape
returns-then-out-tape c = rw c.at.ensures (no_room 12 earns_12 up_token _ _ c.if-out-tape.true)

pub raised-requires : goal.raised-requires
raised-requires c = (accepted_by c.args.tape.now (sym (ap checked c.in_ok-check.was) ∙ c.check.ensures), c.if-out-tape.false)

pub returns-in_err-check : goal.returns-in_err-check
returns-in_err-check c = let p = err_from_is_err_and c.from_residual.result c.from_residual.ensures.1 in
    rw (p.1, p.2)
    (not-accepted 12 earns_12 up_token _ _ c.if-out-tape.false
    (refused_by c.args.tape.now (sym (ap checked c.in_err-check.was) ∙ c.check.ensures)))
