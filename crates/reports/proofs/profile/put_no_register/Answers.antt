-- `reports::profile::put_no_register` meets its contract. Assumes nothing.
use Rattle.std.proofs.Common.{arith, ◌≤◌, [], ◌∷◌, length, ap, sym, append_assoc}
use Rattle.reference.specs.Text.{bytes}
use borrow.Author.Rules.{rules}
use Rattle.text.proofs.Cursors.{then_puts, puts_as, room_left, at_front}
use Rattle.reports.specs.Profile.{no_register}
use Rattle.reports.proofs.Placing.{head-length}
use Rattle.reports.proofs.profile.put_no_register.Goals as goal

pub put-requires : goal.put-requires
put-requires c = room_left c.put_head.ensures _ (omega (arith, ap length c.new-line.ensures.same_bytes, head-length 16 0))

pub put-requires-2 : goal.put-requires-2
put-requires-2 c =
    room_left c.put.ensures _ (room_left c.put_head.ensures _ (omega (arith, ap length c.new-line.ensures.same_bytes, head-length 16 0)))

pub put-requires-3 : goal.put-requires-3
put-requires-3 c =
    room_left c.put-2.ensures _
    (room_left c.put.ensures _ (room_left c.put_head.ensures _ (omega (arith, ap length c.new-line.ensures.same_bytes, head-length 16 0))))

pub returns : goal.returns
unfolding no_register
returns c =
    let h : c.new-line.result.at ≤ length c.new-line.result.out.now = omega arith in
    let w = then_puts (then_puts c.put_head.ensures h c.put.ensures) h c.put-2.ensures in
    let x = puts_as (then_puts w h c.put-3.ensures) (sym (append_assoc _ (bytes " is no 64-bit register (as rax, r8)") (10 ∷ []))) in
    at_front x (search rules) (search rules) (search rules)
