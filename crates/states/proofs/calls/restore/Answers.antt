-- `states::calls::restore` meets its contract. Assumes nothing.
use Rattle.states.proofs.Contents.{most_is}
use Rattle.states.proofs.Passing.{restore_refused, restore_ready, restore-done}
use Rattle.states.specs.Answers.{cell_of}
use Rattle.std.proofs.lemmas.Result.{err_from_is_err_and}
use mathlib.Core.Path.{refl, sym, ap, ◌∙◌}
use Rattle.states.proofs.calls.restore.Goals as goal

pub returns-in_err-i : goal.returns-in_err-i
returns-in_err-i c = let p = err_from_is_err_and c.from_residual.result c.from_residual.ensures.1 in
    rw (p.1, p.2)
    (restore_refused c.args.store.now c.args.name.now c.args.out.now
    (rw most_is refl)
    (sym (ap cell_of c.in_err-i.was) ∙ c.held.ensures))

pub invariant_of-cells : goal.invariant_of-cells
invariant_of-cells c =
    let r = restore_ready c.args.store.now c.args.name.now c.args.out.now (rw most_is refl) (sym (ap cell_of c.in_ok-i.was) ∙ c.held.ensures) in
    record { whole = r.0.whole }

pub copy_out-requires : goal.copy_out-requires
copy_out-requires c =
    let r = restore_ready c.args.store.now c.args.name.now c.args.out.now (rw most_is refl) (sym (ap cell_of c.in_ok-i.was) ∙ c.held.ensures) in
    (r.0.below, r.1, r.2)

pub returns : goal.returns
returns c = let w = c.copy_out.ensures in
    restore-done c.args.store.now c.args.name.now c.args.out.now
    (rw most_is refl)
    (sym (ap cell_of c.in_ok-i.was) ∙ c.held.ensures) w.value w.out_after
