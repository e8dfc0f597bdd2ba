-- `states::calls::put_body` meets its contract. Assumes nothing.
use Prim.Native.Nat.{ℕ}
use native.Mathlib.Omega.{arith}
use mathlib.Core.Path.{ap, ◌∙◌}
use mathlib.Core.List.{List}
use lib.ListN.{length, take}
use Rattle.text.proofs.Cursors.{then_puts, puts_as, room_left, le_front}
use Rattle.states.proofs.calls.put_body.Goals as goal

pub put-requires : goal.put-requires
put-requires c =
    let four = ap (λ (l : List ℕ). length (take 4 l)) c.to_le_bytes.ensures in
    omega (arith, c.requires, four)

pub put-requires-2 : goal.put-requires-2
put-requires-2 c =
    let four = ap (λ (l : List ℕ). length (take 4 l)) c.to_le_bytes.ensures in
    room_left c.put.ensures _ (omega (arith, c.requires, four))

pub returns : goal.returns
returns c =
    let size = puts_as c.put.ensures (ap (take 4) c.to_le_bytes.ensures ∙ le_front 4 (length c.args.tape.now) (omega arith)) in
    then_puts size (omega (arith, c.requires)) c.put-2.ensures
