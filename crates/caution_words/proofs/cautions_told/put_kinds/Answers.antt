-- `caution_words::cautions_told::put_kinds` meets its contract. Assumes nothing.
use Rattle.std.proofs.Common.{arith, add-one, ap, length}
use borrow.Author.Rules.{rules}
use lib.Seq.{take-suc}
use Rattle.text.proofs.Cursors.{puts_none, then_puts, puts_as, room_left, at_front}
use Rattle.caution_words.specs.Told.{kind_line, every, kinds_told}
use Rattle.caution_words.proofs.Telling.{told_none, told_next, told_all, room_told, line-length}
use Rattle.caution_words.proofs.cautions_told.put_kinds.Goals as goal

pub loop-kind-init : goal.loop-kind-init
loop-kind-init c = puts_as puts_none (told_none kind_line c.args.set)

pub put_if_in-requires : goal.put_if_in-requires
put_if_in-requires c =
    room_left c.loop-kind.invariant _
    (omega (arith, ap length c.new-lines.ensures.same_bytes, room_told kind_line c.args.set 400 line-length c.loop-kind.kind-index c.loop-kind-test.true))

pub loop-kind-preserved : goal.loop-kind-preserved
loop-kind-preserved c =
    puts_as (then_puts c.loop-kind.invariant (omega arith) c.put_if_in.ensures)
    (told_next kind_line c.args.set every c.loop-kind.kind-index _ (rw add-one (take-suc every c.loop-kind.kind-index _ c.loop-kind-test.true)))

pub returns : goal.returns
unfolding kinds_told
returns c =
    at_front (puts_as c.loop-kind.invariant (told_all kind_line c.args.set c.loop-kind.kind-index (omega arith))) (search rules) (search rules) (search rules)
