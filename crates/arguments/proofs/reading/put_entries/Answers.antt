-- `arguments::reading::put_entries` meets its contract. Assumes nothing.
use Rattle.std.proofs.Common.{arith, length, ap}
use borrow.Author.Rules.{rules}
use Rattle.text.proofs.Cursors.{room_left, at_front}
use Rattle.arguments.specs.Words.{is_at}
use Rattle.arguments.proofs.Naming.{taken-length}
use Rattle.arguments.proofs.Gathering.{begun_first, begun-next, begun_all}
use Rattle.arguments.proofs.reading.put_entries.Goals as goal

pub loop-word-init : goal.loop-word-init
loop-word-init c =
    let n = ap length c.new-list.ensures.same_bytes in
    record { counted = omega arith; room = omega (arith, n); before = λ h. omega (arith, n); begun = begun_first _ c.begin-s.ensures (omega arith) }

pub loop-word-preserved : goal.loop-word-preserved
loop-word-preserved c =
    let w = c.in-Some.word.now in
    let f = c.in-Some.ensures in
    let p = rw c.is_at.ensures at c.put_taken.ensures in
    let before = c.loop-word.invariant.before (omega (arith, f.falls)) in
    let n = taken-length (is_at c.step-s.result.start.entry c.loop-word.k) w in
    record {
      counted = omega (arith, f.falls);
      room = room_left p _ (omega (arith, n, f.within, before));
      before = λ h. room_left p _ (omega (arith, n, f.ended h, before));
      begun = begun-next _ _ f.splits _ _ c.step-s.ensures c.loop-word.invariant.begun p;
    }

pub returns : goal.returns
returns c = at_front (begun_all _ c.in_default.ensures c.loop-word.invariant.begun) (search rules) (search rules) (search rules)
