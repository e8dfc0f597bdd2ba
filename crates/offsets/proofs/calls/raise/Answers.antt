-- `offsets::calls::raise` meets its contract. Assumes nothing.
use lib.ListN.{length}
use Rattle.offsets.specs.Calls.{passing}
use Rattle.offsets.specs.Offsets.{base_of}
use Rattle.offsets.proofs.Answering.{refused_call, from_refused, ready_is, raised}
use Rattle.std.proofs.lemmas.Result.{err_from_is_err_and}
use mathlib.Core.Path.{sym, ap, ◌∙◌}
use native.Mathlib.Omega.{arith}
use borrow.Author.Rules.{rules}
use Rattle.offsets.proofs.calls.raise.Goals as goal

pub base_of-base-requires : goal.base_of-base-requires
base_of-base-requires c = c.requires.0.long

pub returns-in_err-ready : goal.returns-in_err-ready
returns-in_err-ready c = let a = c.args in
    let p = err_from_is_err_and c.from_residual.result c.from_residual.ensures.1 in
    let e = rw c.base_of-base.ensures at (sym (ap passing c.in_err-ready.was) ∙ c.ready.ensures) in
    rw (p.1, p.2) (refused_call a.out.now (from_refused a.tape.now (length a.out.now) c.requires.1 c.requires.0 e))

pub put_commands-requires : goal.put_commands-requires
put_commands-requires c = let e = c.new-out.ensures in
    (ready_is _ c.base_of-base.result c.args.tape.now (sym (ap passing c.in_ok-ready.was) ∙ c.ready.ensures), rw (e.from, e.same_bytes) (omega (arith, c.requires)))

pub returns : goal.returns
returns c = let a = c.args in
    let k = ready_is _ (base_of a.tape.now) a.tape.now (rw c.base_of-base.ensures at (sym (ap passing c.in_ok-ready.was) ∙ c.ready.ensures)) in
    let written = rw c.base_of-base.ensures at c.put_commands.ensures in
    let lent = (written k.read.lines k.read.reads).lent in
    raised c.new-out.ensures.same_bytes c.new-out.ensures.from (search (rules, lent)) a.tape.now c.requires.0 c.requires.1 k written
