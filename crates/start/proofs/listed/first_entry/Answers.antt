-- `start::listed::first_entry` meets its contract. Assumes nothing.
use native.Mathlib.Omega.{arith}
use mathlib.Core.Path.{ap, ◌∙◌}
use Rattle.start.specs.Items.{shown}
use Rattle.start.proofs.Entries.{no_head, byte-small, cut_read, entry_read}
use Rattle.start.proofs.listed.first_entry.Goals as goal

pub returns-in_err-n : goal.returns-in_err-n
returns-in_err-n c = ap shown c.from_residual.ensures ∙ no_head c.args.list.now c.in_err-n.ensures.cases

pub overflow_add-end : goal.overflow_add-end
overflow_add-end c =
    let h = byte-small _ _ c.in_ok-n.ensures.cases.0 c.type_inv.list in
    record { fits = omega (arith, h, c.from-n.ensures) }

pub returns-then-behind-end : goal.returns-then-behind-end
returns-then-behind-end c = cut_read _ _ c.in_ok-n.ensures.cases.0 c.from-n.result c.from-n.ensures c.if-behind-end.true

pub returns : goal.returns
returns c = entry_read _ _ c.in_ok-n.ensures.cases.0 c.from-n.result c.from-n.ensures c.if-behind-end.false c.number_at.result c.number_at.ensures
