-- What the loop of `cautioned::telling::put_sets` keeps true.
use Rattle.std.proofs.Common.{take}
use Rattle.text.specs.Cursor.{Puts}
use Rattle.cautions.specs.Cautions.{caution_bytes}
use Rattle.cautioned.proofs.telling.put_sets.Given as goal

abbrev pub invariant-loop-set : goal.invariant-loop-set
invariant-loop-set l = Puts l.initial.out (caution_bytes (take l.set-index l.sets)) l.out
