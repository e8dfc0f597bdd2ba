-- `tape::writing::put_token` meets its contract. Assumes nothing.
use Prim.Native.Nat.{ℕ, ◌+◌}
use native.Mathlib.Omega.{arith}
use mathlib.Core.Path.{ap, ◌∙◌}
use mathlib.Core.List.{List}
use lib.ListN.{length, take}
use Rattle.reference.specs.Listing.{token}
use Rattle.reference.proofs.LittleEndian.{to_length}
use Rattle.text.proofs.Cursors.{then_puts, puts_as, room_left, le_front}
use Rattle.tape.proofs.writing.Putting.{token_text, token_size}
use Rattle.tape.proofs.writing.put_token.Goals as goal

pub put_le-requires : goal.put_le-requires
put_le-requires c = omega (arith, c.requires.1, token_size (token c.args.kind c.args.text.now))

pub put-requires : goal.put-requires
put-requires c =
    let size = token_size (token c.args.kind c.args.text.now) in
    let two = ap (λ (l : List ℕ). length (take 2 l)) c.to_le_bytes.ensures in
    room_left c.put_le.ensures _ (omega (arith, c.requires.1, size, two, to_length 1 (16 + c.args.kind)))

pub put-requires-2 : goal.put-requires-2
put-requires-2 c =
    let size = token_size (token c.args.kind c.args.text.now) in
    let two = ap (λ (l : List ℕ). length (take 2 l)) c.to_le_bytes.ensures in
    room_left c.put.ensures _ (room_left c.put_le.ensures _ (omega (arith, c.requires.1, size, two, to_length 1 (16 + c.args.kind))))

pub returns : goal.returns
returns c = let a = c.args in
    let size = puts_as c.put.ensures (ap (take 2) c.to_le_bytes.ensures ∙ le_front 2 (length a.text.now) (omega arith)) in
    let begun = then_puts c.put_le.ensures (omega (arith, c.requires.1)) size in
    puts_as (then_puts begun (omega (arith, c.requires.1)) c.put-2.ensures) (token_text a.kind a.text.now c.requires.0)
