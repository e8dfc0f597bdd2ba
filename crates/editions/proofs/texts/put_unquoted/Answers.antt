-- `editions::texts::put_unquoted` meets its contract. Assumes nothing.
use Rattle.editions.proofs.Putting.{rest_begin, rest-room, rest_more, rest_end}
use Rattle.editions.proofs.texts.put_unquoted.Goals as goal

pub loop-b-init : goal.loop-b-init
loop-b-init c = rest_begin c.args.s.now _

pub put_byte-requires : goal.put_byte-requires
put_byte-requires c = rest-room c.args.s.now c.loop-b.b-index c.loop-b.invariant c.requires c.loop-b-test.true

pub loop-b-preserved : goal.loop-b-preserved
loop-b-preserved c = rest_more c.args.s.now c.loop-b.b-index c.loop-b.invariant c.requires c.loop-b-test.true c.put_byte.ensures

pub returns : goal.returns
returns c = rest_end c.args.s.now c.loop-b.b-index c.loop-b.invariant c.requires c.loop-b-test.false
