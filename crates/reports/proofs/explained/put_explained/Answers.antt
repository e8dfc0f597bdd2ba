-- `reports::explained::put_explained` meets its contract. Assumes nothing.
use Rattle.std.proofs.Common.{arith, ◌≤◌, ℕ, length, ap}
use borrow.Author.Rules.{rules}
use Rattle.text.proofs.Cursors.{then_puts, puts_as, room_left, at_front}
use Rattle.answers.specs.Refusals.{number_of}
use Rattle.reports.specs.Explained.{explained}
use Rattle.reports.proofs.Placing.{head-length, located-length, words-length}
use Rattle.reports.proofs.explained.put_explained.Goals as goal

pub put_located-requires : goal.put_located-requires
put_located-requires c =
    let n : ℕ = number_of c.args.refused.reason in
    room_left c.put_head.ensures _ (omega (arith, ap length c.new-line.ensures.same_bytes, head-length n c.args.refused.place))

pub put-requires : goal.put-requires
put-requires c =
    let n : ℕ = number_of c.args.refused.reason in
    room_left c.put_located.ensures _
    (room_left c.put_head.ensures _
    (omega (arith, ap length c.new-line.ensures.same_bytes, head-length n c.args.refused.place, located-length n c.spot_told-spot.result)))

pub put-requires-2 : goal.put-requires-2
put-requires-2 c =
    let n : ℕ = number_of c.args.refused.reason in
    let k : length c.words-words.result.now ≤ 200 = rw c.words-words.ensures.words (words-length c.args.tape.now n c.args.refused.place) in
    room_left c.put.ensures _
    (room_left c.put_located.ensures _
    (room_left c.put_head.ensures _
    (omega (arith, k, ap length c.new-line.ensures.same_bytes, head-length n c.args.refused.place, located-length n c.spot_told-spot.result))))

pub put-requires-3 : goal.put-requires-3
put-requires-3 c =
    let n : ℕ = number_of c.args.refused.reason in
    let k : length c.words-words.result.now ≤ 200 = rw c.words-words.ensures.words (words-length c.args.tape.now n c.args.refused.place) in
    room_left c.put-2.ensures _
    (room_left c.put.ensures _
    (room_left c.put_located.ensures _
    (room_left c.put_head.ensures _
    (omega (arith, k, ap length c.new-line.ensures.same_bytes, head-length n c.args.refused.place, located-length n c.spot_told-spot.result)))))

pub returns : goal.returns
unfolding explained
returns c =
    let h : c.new-line.result.at ≤ length c.new-line.result.out.now = omega arith in
    let l = rw c.spot_told-spot.ensures at c.put_located.ensures in
    let w = then_puts (then_puts c.put_head.ensures h l) h c.put.ensures in
    let x = then_puts w h (puts_as c.put-2.ensures c.words-words.ensures.words) in
    at_front (then_puts x h c.put-3.ensures) (search rules) (search rules) (search rules)
