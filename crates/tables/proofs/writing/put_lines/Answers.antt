-- `tables::writing::put_lines` meets its contract: the records of the lines are gathered, and mean the lines. Assumes nothing.
use Rattle.lines.specs.Marks.{highs_of, lows_of}
use Rattle.tables.proofs.writing.Gathering.{gathered_lines, gathered_writes}
use Rattle.tables.proofs.writing.put_lines.Goals as goal

pub put_records-requires : goal.put_records-requires
put_records-requires c = let a = c.args in
    let t = a.listing.now.texts in
    gathered_writes t.tape.now t.area.now a.listing.now.tokens.now a.addresses.now (lows_of a.marks.now) (highs_of a.marks.now) a.listing.now.lines.now _ c.gather.ensures
    a.out.now c.requires.0 c.requires.5

pub returns : goal.returns
returns c = let a = c.args in
    let t = a.listing.now.texts in
    rw (gathered_lines t.tape.now t.area.now a.listing.now.tokens.now a.addresses.now (lows_of a.marks.now) (highs_of a.marks.now) a.listing.now.lines.now _ c.gather.ensures) at c.put_records.ensures
