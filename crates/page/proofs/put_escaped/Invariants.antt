-- What the loop of `page::put_escaped` keeps true.
use Rattle.std.proofs.Common.{take}
use Rattle.text.specs.Cursor.{Puts}
use Rattle.page.specs.Escaping.{escaped}
use Rattle.page.proofs.put_escaped.Given as goal

abbrev pub invariant-loop-b : goal.invariant-loop-b
invariant-loop-b l = Puts l.initial.out (escaped (take l.b-index l.text)) l.out
