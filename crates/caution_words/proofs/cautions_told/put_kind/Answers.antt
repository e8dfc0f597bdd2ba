-- `caution_words::cautions_told::put_kind` meets its contract. Assumes nothing.
use Rattle.std.proofs.Common.{arith, length, ◌≤◌}
use Rattle.text.proofs.Cursors.{then_puts, puts_as}
use Rattle.caution_words.specs.Told.{kind_line}
use Rattle.caution_words.proofs.cautions_told.put_kind.Goals as goal

pub returns : goal.returns
unfolding kind_line
returns c =
    let h : c.args.out.now.at ≤ length c.args.out.now.out.now = omega (arith, c.requires) in
    let named = then_puts (then_puts c.put.ensures h (puts_as c.put-2.ensures c.name.ensures)) h c.put-3.ensures in
    then_puts (then_puts named h (puts_as c.put-4.ensures c.sentence.ensures)) h c.put-5.ensures
