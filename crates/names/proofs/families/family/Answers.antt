-- `names::families::family` meets its contract. Assumes nothing.
use Rattle.names.proofs.Spelling.{long, in_table, not_in-table}
use Rattle.names.proofs.families.family.Goals as goal

pub returns-then-s-gt3 : goal.returns-then-s-gt3
returns-then-s-gt3 c = rw (long c.args.s.now c.if-s-gt3.true) c.numbered.ensures

pub returns-in-Some : goal.returns-in-Some
returns-in-Some c = in_table c.args.s.now (c.in-Some.ensures)

pub returns-in-None : goal.returns-in-None
returns-in-None c = rw (not_in-table c.args.s.now (c.in-None.ensures)) c.high_byte.ensures
