-- `editions::writing::lower` meets its contract. Assumes nothing.
use native.Mathlib.Omega.{arith}
use mathlib.Core.Path.{◌≡◌}
use mathlib.Core.List.{flat_map}
use borrow.Author.Rules.{rules}
use Rattle.reference.specs.Tape.{old}
use Rattle.reference.proofs.LittleEndian.{Bytes}
use Rattle.text.proofs.Cursors.{room_left, at_front}
use Rattle.tape.specs.Held.{places}
use Rattle.tape.specs.Walk.{left, shown, event_shown}
use Rattle.tape.proofs.little_endian.Bytes.{puts_written}
use Rattle.tape.proofs.walk.Accepted.{byte_of}
use Rattle.tape.proofs.walk.Loops.{coming_begins, putting_fits, putting_on, putting_ends}
use Rattle.editions.proofs.Copying.{lowered, short_of, all-room, all_fit, all_older, whole_put}
use Rattle.editions.proofs.writing.lower.Goals as goal

pub loop-c-init : goal.loop-c-init
loop-c-init c = let tape = c.args.tape.now in
    let k = c.requires.0 in
    let b : Bytes tape = λ i. omega (arith, c.type_inv.tape i) in
    let e : left old c.into_iter-c-iterator.result ≡ places tape = rw c.into_iter-c-iterator.ensures.into_iter_gives c.new-c-items.ensures in
    let fits = all-room tape k.accepted.listing b k.accepted.reads c.new-out.result (search rules) in
    record {
      put = rw e (coming_begins (flat_map lowered (places tape)) (omega (arith, fits)));
      fit = rw e (all_fit tape k.accepted.listing b k.accepted.reads);
      older = rw e (all_older tape k b);
    }

pub put_lowered-requires : goal.put_lowered-requires
put_lowered-requires c = let w = c.loop-c.invariant in
    let one = event_shown c.in-Some.c.event in
    let fit = (rw c.in-Some.ensures.steps at w.fit).0 in
    record {
      older = (rw c.in-Some.ensures.steps at w.older).0;
      byte = byte_of old one fit;
      short = short_of one fit;
      room = putting_fits lowered (places c.args.tape.now) w.put (shown c.in-Some.c) (left old c.next.new.self) c.in-Some.ensures.steps;
    }

pub loop-c-preserved : goal.loop-c-preserved
loop-c-preserved c = let w = c.loop-c.invariant in
    let steps = c.in-Some.ensures.steps in
    record {
      put = putting_on lowered (places c.args.tape.now) w.put (shown c.in-Some.c) (left old c.next.new.self) steps c.put_lowered.ensures;
      fit = (rw steps at w.fit).1;
      older = (rw steps at w.older).1;
    }

pub put_end-requires : goal.put_end-requires
put_end-requires c = let tape = c.args.tape.now in
    let k = c.requires.0 in
    let b : Bytes tape = λ i. omega (arith, c.type_inv.tape i) in
    let w = putting_ends lowered (places tape) c.loop-c.invariant.put c.in-None.ensures.steps.0 in
    room_left w 1 (all-room tape k.accepted.listing b k.accepted.reads c.new-out.result (search rules))

pub returns : goal.returns
returns c lines e = let tape = c.args.tape.now in
    let b : Bytes tape = λ i. omega (arith, c.type_inv.tape i) in
    let w = putting_ends lowered (places tape) c.loop-c.invariant.put c.in-None.ensures.steps.0 in
    let all = whole_put tape lines b e (search rules) w c.put_end.ensures in
    puts_written (at_front all c.new-out.ensures.same_bytes c.new-out.ensures.from (search rules))
