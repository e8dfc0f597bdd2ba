-- What the loop of `tables::loading::fill` keeps true: the reader holds the tape, the reading has come to its offset, the records and the words are those of the commands so far, and
-- the memo is right. What falls at each turn: the bytes that are left.
use Prim.Native.Nat.{◌-◌}
use mathlib.Core.Path.{◌≡◌}
use lib.ListN.{length}
use Rattle.tables.specs.Memo.{Memory}
use Rattle.tables.specs.Records.{state_of}
use Rattle.tables.proofs.loading.Turns.{Loading}
use Rattle.tables.proofs.loading.fill.Given as goal

abbrev pub invariant-loop-next : goal.invariant-loop-next
invariant-loop-next l =
    (l.reader.tape.now ≡ l.tape) × Loading l.reader.tape.now l.tokens l.records (state_of l.reader l.totals) × Memory l.keys l.words

abbrev pub decreases-loop-next : goal.decreases-loop-next
decreases-loop-next l = length l.tape - l.reader.at
