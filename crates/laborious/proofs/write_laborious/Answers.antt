-- `laborious::write_laborious` meets its contract. Assumes nothing.
use borrow.Author.Rules.{rules}
use Rattle.text.proofs.Cursors.{at_front}
use Rattle.laborious.proofs.Writer.{first_turn, turn-room, next_turn, last_turn}
use Rattle.laborious.proofs.write_laborious.Goals as goal

pub loop-i-init : goal.loop-i-init
loop-i-init c = first_turn _ _

pub put-requires : goal.put-requires
put-requires c = turn-room c.requires.0 (search (rules, c.requires.1)) c.loop-i.invariant c.line_bytes.ensures (search rules)

pub loop-i-preserved : goal.loop-i-preserved
loop-i-preserved c =
    next_turn c.requires.0 (search (rules, c.requires.1)) c.loop-i.invariant c.line_bytes.ensures (search rules) c.put.ensures

pub returns : goal.returns
returns c =
    let e = c.new-out.ensures in
    at_front (last_turn c.requires.0 (search (rules, c.requires.1)) c.loop-i.invariant (search rules) c.put_byte.ensures) e.same_bytes e.from (search rules)
