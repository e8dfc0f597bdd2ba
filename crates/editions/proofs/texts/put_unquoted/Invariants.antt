-- What the loop of `editions::texts::put_unquoted` keeps true: what it has read is put.
use lib.ListN.{take}
use Rattle.text.specs.Cursor.{Puts}
use Rattle.editions.specs.Numbers.{without_quotes}
use Rattle.editions.proofs.texts.put_unquoted.Given as goal

abbrev pub invariant-loop-b : goal.invariant-loop-b
invariant-loop-b l = Puts l.initial.out (without_quotes (take l.b-index l.s)) l.out
