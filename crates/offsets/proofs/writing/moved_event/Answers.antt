-- `offsets::writing::moved_event` meets its contract. Assumes nothing.
use mathlib.Core.Path.{◌≡◌}
use Rattle.std.specs.Prelude.{Some, None}
use Rattle.reference.specs.Control.{let_some◌else◌then◌}
use Rattle.reference.proofs.Cases.{neither}
use Rattle.offsets.specs.Offsets.{addresses}
use Rattle.offsets.specs.Calls.{move_command}
use Rattle.offsets.proofs.writing.moved_event.Goals as goal

pub moved-requires : goal.moved-requires
unfolding addresses
moved-requires g c =
    let e : c.in-Line-Some-default.address' ≡ Some c.in-Line-Some-default.address = rw c.in-Line-Some-default.is at c.in-Line-Some-default.address-is in
    (neither (rw (c.in-Line-Some-default.is, e) at c.requires)).0

pub moved-requires-in-Marks : goal.moved-requires-in-Marks
unfolding addresses
moved-requires-in-Marks g c = (neither (rw c.in-Marks.is at c.requires)).0

pub moved-requires-in-Marks-2 : goal.moved-requires-in-Marks-2
unfolding addresses
moved-requires-in-Marks-2 g c = (neither (neither (rw c.in-Marks.is at c.requires)).1).0

pub returns-in-Line-Some-default : goal.returns-in-Line-Some-default
unfolding move_command let_some◌else◌then◌
returns-in-Line-Some-default g c =
    let e : c.in-Line-Some-default.address' ≡ Some c.in-Line-Some-default.address = rw c.in-Line-Some-default.is at c.in-Line-Some-default.address-is in
    rw (c.in-Line-Some-default.is, e, c.moved.ensures)

pub returns-in-Line-None-default : goal.returns-in-Line-None-default
unfolding move_command let_some◌else◌then◌
returns-in-Line-None-default g c =
    let e : c.in-Line-None-default.address ≡ None = rw c.in-Line-None-default.is at c.in-Line-None-default.address-is in
    rw (c.in-Line-None-default.is, e)

pub returns-in-Marks : goal.returns-in-Marks
unfolding move_command
returns-in-Marks g c = rw (c.in-Marks.is, c.moved-in-Marks.ensures, c.moved-in-Marks-2.ensures)

pub returns-in-Token : goal.returns-in-Token
unfolding move_command
returns-in-Token g c = rw c.in-Token.is
