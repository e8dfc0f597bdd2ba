-- `formula::places::behind` meets its contract. Assumes nothing.
use Rattle.std.proofs.Common.{refl, rules}
use Rattle.formula.proofs.Ahead.{text_over, text_fails, text_goes, leads-in-line}
use Rattle.formula.proofs.Left.{placed}
use Rattle.formula.proofs.places.behind.Goals as goal

pub loop-c-init : goal.loop-c-init
loop-c-init c = (refl, search rules)

pub behind_byte-requires : goal.behind_byte-requires
behind_byte-requires c = (search rules, search (rules, placed))

pub returns-in_err-place : goal.returns-in_err-place
returns-in_err-place c = rw c.from_residual.ensures (search (rules, text_fails))

pub loop-c-preserved : goal.loop-c-preserved
loop-c-preserved c = (search (rules, text_goes), search (rules, leads-in-line))

pub returns : goal.returns
returns c = search (rules, text_over)
