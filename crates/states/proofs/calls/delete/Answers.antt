-- `states::calls::delete` meets its contract. Assumes nothing.
use native.Mathlib.Omega.{arith}
use mathlib.Core.Path.{sym, ap, ◌∙◌}
use Rattle.states.specs.Answers.{cell_of}
use Rattle.states.proofs.Contents.{cell-ends, room_is}
use Rattle.states.proofs.Deciding.{whole_room}
use Rattle.states.proofs.Passing.{delete_refused, delete_ready, delete-done}
use Rattle.std.proofs.lemmas.Result.{err_from_is_err_and}
use Rattle.states.proofs.calls.delete.Goals as goal

pub returns-in_err-i : goal.returns-in_err-i
returns-in_err-i c = let p = err_from_is_err_and c.from_residual.result c.from_residual.ensures.1 in
    rw (p.1, p.2)
    (delete_refused c.args.store.now c.args.name.now
    (whole_room c.args.store.now)
    (sym (ap cell_of c.in_err-i.was) ∙ c.held.ensures))

pub cell_start-requires : goal.cell_start-requires
cell_start-requires c =
    let i =
    delete_ready c.args.store.now c.args.name.now
    (whole_room c.args.store.now)
    (sym (ap cell_of c.in_ok-i.was) ∙ c.held.ensures) in
    i.below

pub release-requires : goal.release-requires
release-requires c =
    let i =
    delete_ready c.args.store.now c.args.name.now
    (whole_room c.args.store.now)
    (sym (ap cell_of c.in_ok-i.was) ∙ c.held.ensures) in
    omega (arith, c.cell_start.ensures, cell-ends _ i.below, i.whole, room_is)

pub returns : goal.returns
returns c =
    delete-done c.args.store.now c.args.name.now
    (whole_room c.args.store.now)
    (sym (ap cell_of c.in_ok-i.was) ∙ c.held.ensures)
    c.cell_start.ensures c.release.ensures
