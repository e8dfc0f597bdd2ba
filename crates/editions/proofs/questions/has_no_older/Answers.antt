-- `editions::questions::has_no_older` meets its contract. Assumes nothing.
use mathlib.Core.Path.{◌∙◌}
use Rattle.editions.proofs.Asking.{older, unread-newer}
use Rattle.editions.proofs.questions.has_no_older.Goals as goal

pub returns-then-is_newer : goal.returns-then-is_newer
returns-then-is_newer c =
    unread-newer _ c.is_newer.ensures c.if-is_newer.true c.read_number.result c.read_number.ensures c.is_none.ensures

pub returns-else-is_newer : goal.returns-else-is_newer
returns-else-is_newer c = c.if-is_newer.false ∙ older _ c.is_newer.ensures c.if-is_newer.false
