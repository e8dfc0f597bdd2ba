-- `offsets::calls::to_offsets` meets its contract. Assumes nothing.
use lib.ListN.{length}
use Rattle.offsets.specs.Calls.{passing}
use Rattle.offsets.proofs.Answering.{refused_call, to_small, to_refused, ready_is, lowered}
use Rattle.offsets.proofs.Putting.{front_size}
use Rattle.std.proofs.lemmas.Result.{err_from_is_err_and}
use mathlib.Core.Path.{sym, ap, ◌∙◌}
use native.Mathlib.Omega.{arith}
use borrow.Author.Rules.{rules}
use Rattle.text.proofs.Cursors.{room_left}
use Rattle.offsets.proofs.calls.to_offsets.Goals as goal

pub returns-then-out-lt-OUTPUT_BYTES : goal.returns-then-out-lt-OUTPUT_BYTES
returns-then-out-lt-OUTPUT_BYTES c = let a = c.args in
    rw c.at.ensures (refused_call a.out.now (to_small a.base a.tape.now (length a.out.now) c.if-out-lt-OUTPUT_BYTES.true))

pub returns-in_err-ready : goal.returns-in_err-ready
returns-in_err-ready c = let a = c.args in
    let p = err_from_is_err_and c.from_residual.result c.from_residual.ensures.1 in
    rw (p.1, p.2)
    (refused_call a.out.now
    (to_refused a.base a.tape.now (length a.out.now) c.if-out-lt-OUTPUT_BYTES.false (sym (ap passing c.in_err-ready.was) ∙ c.ready.ensures)))

pub put_commands-requires : goal.put_commands-requires
put_commands-requires c = let a = c.args in
    let e = c.new-out.ensures in (
      ready_is _ a.base a.tape.now (sym (ap passing c.in_ok-ready.was) ∙ c.ready.ensures),
      room_left c.put_front.ensures 34561 (rw (e.from, e.same_bytes, front_size a.base) (omega (arith, c.if-out-lt-OUTPUT_BYTES.false))),
    )

pub returns : goal.returns
returns c = let a = c.args in
    let k = ready_is _ a.base a.tape.now (sym (ap passing c.in_ok-ready.was) ∙ c.ready.ensures) in
    let lent = (c.put_commands.ensures k.read.lines k.read.reads).lent in
    lowered c.new-out.ensures.same_bytes c.new-out.ensures.from (search (rules, lent)) a.base a.tape.now k c.if-out-lt-OUTPUT_BYTES.false c.put_front.ensures
    c.put_commands.ensures
