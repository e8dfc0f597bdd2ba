-- `sources::copying::put_commands` meets its contract: the copy of the commands so far stands in the output. Assumes nothing.
use native.Mathlib.Omega.{arith}
use mathlib.Core.Path.{◌≡◌, refl, sym, ap, ◌∙◌}
use mathlib.Core.List.{append-nil}
use borrow.Author.Rules.{rules}
use lib.Dec.{eqb}
use lib.ListN.{length}
use Rattle.reference.specs.Tape.{old, end, write_command, write_command_by}
use Rattle.reference.proofs.LittleEndian.{Bytes}
use Rattle.reference.proofs.Tapes.{read-limits}
use Rattle.text.specs.Cursor.{Fits}
use Rattle.text.proofs.Cursors.{puts_as, at_front}
use Rattle.tape.specs.Held.{commands, places, unplaced}
use Rattle.tape.specs.Walk.{left, event_shown}
use Rattle.tape.proofs.little_endian.Bytes.{puts_written}
use Rattle.tape.proofs.walk.Accepted.{byte_of, accepted_fit, held-read}
use Rattle.tape.proofs.walk.Loops.{coming_begins, coming_room, coming_fits, coming_on, coming_ends}
use Rattle.sources.specs.Calls.{copied}
use Rattle.sources.proofs.Putting.{all_copied, all_is, all_fits}
use Rattle.sources.proofs.Walked.{lines_left}
use Rattle.sources.proofs.copying.put_commands.Goals as goal

pub loop-c-init : goal.loop-c-init
loop-c-init c = let a = c.args in
    let r = c.requires.0 in
    let bytes : Bytes a.tape.now = λ i. omega (arith, c.type_inv.tape i) in
    let room : Fits c.new-out.result 34561 = search (rules, c.requires.1) in
    let e : left old c.into_iter-c-iterator.result ≡ places a.tape.now = rw c.into_iter-c-iterator.ensures.into_iter_gives c.new-c-items.ensures in
    record {
      put = rw e (coming_begins (all_copied a.k 0 (commands a.tape.now)) (omega (arith, room, all_fits a.k a.tape.now r.listing bytes r.reads)));
      each = rw e (accepted_fit old a.tape.now r.listing bytes r.reads);
      few = rw e (omega (arith, ap length (held-read a.tape.now r.listing bytes r.reads), (read-limits a.tape.now r.listing r.reads).few_lines));
    }

pub put_copied-n-requires : goal.put_copied-n-requires
put_copied-n-requires c = let w = c.loop-c.invariant in
    let x = event_shown c.in-Some.c.event in
    let more = unplaced (left old c.next.new.self) in
    let e = ap unplaced c.in-Some.ensures.steps in (
      byte_of old x (rw e at w.each).0,
      coming_fits w.put (copied (eqb c.loop-c.n c.args.k) x) _ (ap (all_copied c.args.k c.loop-c.n) e),
      omega (arith, lines_left x more c.loop-c.n, rw e at w.few),
    )

pub loop-c-preserved : goal.loop-c-preserved
loop-c-preserved c = let w = c.loop-c.invariant in
    let x = event_shown c.in-Some.c.event in
    let more = unplaced (left old c.next.new.self) in
    let e = ap unplaced c.in-Some.ensures.steps in
    rw c.put_copied-n.ensures.1
    (record {
      put = coming_on w.put (copied (eqb c.loop-c.n c.args.k) x) (ap (all_copied c.args.k c.loop-c.n) e) c.put_copied-n.ensures.0;
      each = (rw e at w.each).1;
      few = omega (arith, lines_left x more c.loop-c.n, rw e at w.few);
    })

pub put_end-requires : goal.put_end-requires
unfolding write_command_by
put_end-requires c = omega (arith, coming_room c.loop-c.invariant.put, ap (λ ps. length (all_copied c.args.k c.loop-c.n (unplaced ps))) c.in-None.ensures.steps.0)

pub returns : goal.returns
returns c lines reads = let a = c.args in
    let bytes : Bytes a.tape.now = λ i. omega (arith, c.type_inv.tape i) in
    let w = coming_on c.loop-c.invariant.put (write_command end)
    (ap (λ ps. all_copied a.k c.loop-c.n (unplaced ps)) c.in-None.ensures.steps.0 ∙ sym (append-nil (write_command end))) c.put_end.ensures in
    let e = c.new-out.ensures in
    puts_written (at_front (puts_as (coming_ends w refl) (all_is a.k a.tape.now lines bytes reads)) e.same_bytes e.from (search rules))
