-- `states::calls::opened` meets its contract. Assumes nothing.
use Rattle.std.proofs.Common.{sym}
use Rattle.states.proofs.Contents.{store_is}
use Rattle.states.proofs.Deciding.{opened-short, opened-wrong, opened-right, room-there, room-lacks}
use Rattle.states.proofs.calls.opened.Goals as goal

pub returns-then-store-lt-STORE_BYTES-clause-answer : goal.returns-then-store-lt-STORE_BYTES-clause-answer
returns-then-store-lt-STORE_BYTES-clause-answer c =
    rw c.at.ensures (sym (opened-short c.args.store.now (room-lacks c.args.store.now c.then-store-lt-STORE_BYTES.either)))

pub invariant_of-cells : goal.invariant_of-cells
invariant_of-cells c = record { whole = rw store_is at c.if-store-lt-STORE_BYTES.false }

pub returns-in-Some-clause-answer : goal.returns-in-Some-clause-answer
returns-in-Some-clause-answer c =
    let room = room-there c.args.store.now c.if-store-lt-STORE_BYTES.false c.if-not-enough.false in
    rw c.at-in-Some.ensures (sym (opened-wrong c.args.store.now room (sym c.in-Some.ensures)))

pub returns-in-None-clause-answer : goal.returns-in-None-clause-answer
returns-in-None-clause-answer c =
    let room = room-there c.args.store.now c.if-store-lt-STORE_BYTES.false c.if-not-enough.false in
    sym (opened-right c.args.store.now room (sym c.in-None.ensures))
