-- `offsets::writing::put_commands` meets its contract. Assumes nothing.
use native.Mathlib.Omega.{arith}
use mathlib.Core.Path.{◌≡◌}
use mathlib.Core.List.{flat_map}
use Rattle.reference.proofs.LittleEndian.{Bytes}
use Rattle.tape.specs.Commands.{form_of}
use Rattle.tape.specs.Held.{places_by}
use Rattle.tape.specs.Walk.{left, shown, event_shown}
use Rattle.tape.proofs.walk.Accepted.{byte_of}
use Rattle.tape.proofs.walk.Loops.{coming_begins, putting_fits, putting_on, putting_ends}
use Rattle.text.proofs.Cursors.{room_left}
use Rattle.offsets.proofs.Putting.{bytes_of, all_movable, all-room, whole_put, end_is}
use Rattle.offsets.specs.contracts.writing.put_commands as code
use denote.Param.{number}
use Rattle.offsets.proofs.writing.put_commands.Goals as goal

pub loop-c-init : goal.loop-c-init
loop-c-init g c = let b = code.BASED-type (number g.row.BASED) in
    let a = c.args in
    let k = c.requires.0 in
    let bytes : Bytes a.tape.now = λ i. omega (arith, c.type_inv.tape i) in
    let e : left (form_of b) c.into_iter-c-iterator.result ≡ places_by (form_of b) a.tape.now = rw c.into_iter-c-iterator.ensures.into_iter_gives c.new-c-items.ensures in
    record {
      put = rw e (coming_begins (flat_map (bytes_of b a.base a.tape.now) (places_by (form_of b) a.tape.now))
          (omega (arith, c.requires.1, all-room b a.base a.tape.now k.read.lines bytes k.read.reads)));
      each = rw e (all_movable b a.base a.tape.now k bytes);
    }

pub put_moved-requires : goal.put_moved-requires
put_moved-requires g c = let b = code.BASED-type (number g.row.BASED) in
    let a = c.args in
    let w = c.loop-c.invariant in
    let m = rw c.in-Some.ensures.steps at w.each in (
      m.0.1,
      byte_of (form_of b) (event_shown c.in-Some.c.event) m.0.0,
      putting_fits (bytes_of b a.base a.tape.now) (places_by (form_of b) a.tape.now) w.put (shown c.in-Some.c) (left (form_of b) c.next.new.self) c.in-Some.ensures.steps,
    )

pub loop-c-preserved : goal.loop-c-preserved
loop-c-preserved g c = let b = code.BASED-type (number g.row.BASED) in
    let a = c.args in
    let w = c.loop-c.invariant in
    record {
      put = putting_on (bytes_of b a.base a.tape.now) (places_by (form_of b) a.tape.now) w.put (shown c.in-Some.c) (left (form_of b) c.next.new.self) c.in-Some.ensures.steps c.put_moved.ensures;
      each = (rw c.in-Some.ensures.steps at w.each).1;
    }

pub put_end-requires : goal.put_end-requires
put_end-requires g c = let b = code.BASED-type (number g.row.BASED) in
    let a = c.args in
    let k = c.requires.0 in
    let bytes : Bytes a.tape.now = λ i. omega (arith, c.type_inv.tape i) in
    let w = putting_ends (bytes_of b a.base a.tape.now) (places_by (form_of b) a.tape.now) c.loop-c.invariant.put c.in-None.ensures.steps.0 in
    room_left w 1 (omega (arith, c.requires.1, all-room b a.base a.tape.now k.read.lines bytes k.read.reads))

pub returns : goal.returns
returns g c lines reads = let b = code.BASED-type (number g.row.BASED) in
    let a = c.args in
    let bytes : Bytes a.tape.now = λ i. omega (arith, c.type_inv.tape i) in
    let w = putting_ends (bytes_of b a.base a.tape.now) (places_by (form_of b) a.tape.now) c.loop-c.invariant.put c.in-None.ensures.steps.0 in
    whole_put b a.base a.tape.now lines bytes reads c.requires.1 w (rw (end_is b) c.put_end.ensures)
