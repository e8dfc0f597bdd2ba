-- `lines::shapes::is_written` meets its contract. Assumes nothing.
use Rattle.lines.proofs.shapes.Writes.{written_is, written_past}
use Rattle.lines.proofs.shapes.is_written.Goals as goal

pub returns-in_default : goal.returns-in_default
returns-in_default c = let a = c.args in written_past _ _ a.line.now a.pos (c.in_default.ensures.lookup.3)

pub returns : goal.returns
returns c =
    let a = c.args in
    rw (written_is _ _ a.line.now a.pos c.in-Some.ensures.lookup.3.0, ← c.in-Some.ensures.lookup.3.1 0) c.has.ensures
