-- `offsets::writing::put_moved` meets its contract. Assumes nothing.
use mathlib.Core.Path.{◌≡◌}
use mathlib.Core.Bool.{true, false}
use native.Mathlib.Omega.{arith}
use Rattle.tape.specs.Walk.{event_shown}
use Rattle.offsets.proofs.Putting.{to_old, to_based, moved-byte_fits}
use Rattle.offsets.specs.Calls.{moved_by}
use Rattle.offsets.specs.contracts.writing.put_moved as code
use denote.Param.{number}
use Rattle.offsets.proofs.writing.put_moved.Goals as goal

pub put_command-requires : goal.put_command-requires
put_command-requires g c = let b = code.BASED-type (number g.row.BASED) in
    let t : code.BASED-type (number g.row.BASED) ≡ true = grind arith in
    rw (c.moved_event-moved.ensures, to_old b t)
    (moved-byte_fits (moved_by b c.args.base) (event_shown c.args.event.now) c.requires.1, c.requires.2)

pub put_command-requires-else-this-ne0 : goal.put_command-requires-else-this-ne0
put_command-requires-else-this-ne0 g c = let b = code.BASED-type (number g.row.BASED) in
    let t : code.BASED-type (number g.row.BASED) ≡ false = grind arith in
    rw (c.moved_event-moved.ensures, to_based b t)
    (moved-byte_fits (moved_by b c.args.base) (event_shown c.args.event.now) c.requires.1, c.requires.2)
