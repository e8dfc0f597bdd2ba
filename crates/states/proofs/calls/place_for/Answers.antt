-- `states::calls::place_for` meets its contract. Assumes nothing.
use Rattle.states.proofs.Deciding.{spot_replaced, spot_full, spot_free, none_of}
use Rattle.reference.specs.Options.{option_of}
use Rattle.std.proofs.lemmas.Result.{err_from_is_err_and}
use mathlib.Core.Path.{sym, ap, ◌∙◌}
use Rattle.states.proofs.calls.place_for.Goals as goal

pub returns-in-Some : goal.returns-in-Some
returns-in-Some c = sym (spot_replaced c.args.store.now.bytes.now c.args.name.now (sym c.named.ensures ∙ ap option_of c.in-Some.is))

pub returns-in_err-i : goal.returns-in_err-i
returns-in_err-i c = let p = err_from_is_err_and c.from_residual.result c.from_residual.ensures.1 in
    let n = none_of c.named.result c.in_default.not-Some in
    rw (p.1, p.2)
    (spot_full c.args.store.now.bytes.now c.args.name.now c.free_cell.result
    (sym c.named.ensures ∙ ap option_of n) c.free_cell.ensures c.at.ensures (sym c.ok_or.ensures.value ∙ c.in_err-i.was))

pub returns : goal.returns
returns c = let n = none_of c.named.result c.in_default.not-Some in
    spot_free c.args.store.now.bytes.now c.args.name.now c.free_cell.result _
    (sym c.named.ensures ∙ ap option_of n) c.free_cell.ensures (sym c.ok_or.ensures.value ∙ c.in_ok-i.was)
