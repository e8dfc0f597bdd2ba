-- `sources::calls::copy_only` meets its contract. Assumes nothing.
use lib.ListN.{length}
use mathlib.Core.Path.{sym, ap, ◌∙◌}
use Rattle.std.proofs.lemmas.Result.{err_from_is_err_and}
use Rattle.tape.specs.Questions.{checked}
use Rattle.tape.proofs.questions.Reading.{refused_by, accepted_by}
use Rattle.offsets.proofs.Answering.{refused_call}
use Rattle.sources.proofs.Answering.{only-small, only_refused, only-written}
use Rattle.sources.proofs.calls.copy_only.Goals as goal

pub returns-then-out-lt-COPY_BYTES : goal.returns-then-out-lt-COPY_BYTES
returns-then-out-lt-COPY_BYTES c = let a = c.args in
    rw c.at.ensures (refused_call a.out.now (only-small a.k a.tape.now (length a.out.now) c.if-out-lt-COPY_BYTES.true))

pub put_commands-requires : goal.put_commands-requires
put_commands-requires c = (accepted_by c.args.tape.now (sym (ap checked c.in_ok-check.was) ∙ c.check.ensures), c.if-out-lt-COPY_BYTES.false)

pub returns-in_err-check : goal.returns-in_err-check
returns-in_err-check c = let a = c.args in
    let p = err_from_is_err_and c.from_residual.result c.from_residual.ensures.1 in
    rw (p.1, p.2)
    (refused_call a.out.now
    (only_refused a.k a.tape.now (length a.out.now) c.if-out-lt-COPY_BYTES.false
    (refused_by a.tape.now (sym (ap checked c.in_err-check.was) ∙ c.check.ensures))))

pub returns : goal.returns
returns c = let a = c.args in
    only-written a.k a.tape.now a.out.now (accepted_by a.tape.now (sym (ap checked c.in_ok-check.was) ∙ c.check.ensures))
    c.if-out-lt-COPY_BYTES.false c.put_commands.ensures
