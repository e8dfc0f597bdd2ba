-- `numbers::constant::with_digit` meets its contract. Assumes nothing.
use Rattle.std.proofs.Common.{ap, ◌∙◌, arith}
use Rattle.reference.specs.Options.{option_of}
use Rattle.numbers.proofs.Reading.{with_none, with_over, with_in}
use Rattle.numbers.proofs.constant.with_digit.Goals as goal

pub returns-in_err-d : goal.returns-in_err-d
returns-in_err-d c =
    let a = c.args in
    ap option_of c.from_residual.ensures ∙ with_none a.most a.radix a.v a.b c.in_err-d.ensures

pub returns-in_err-checked_mul : goal.returns-in_err-checked_mul
returns-in_err-checked_mul c =
    let a = c.args in
    ap option_of c.from_residual-in_err-checked_mul.ensures ∙ with_over a.most a.radix a.v a.b c.in_ok-d.ensures (omega (arith, c.ranges.most.fits, c.in_err-checked_mul.ensures))

pub returns-in_err-n : goal.returns-in_err-n
returns-in_err-n c =
    let a = c.args in
    let m = c.in_ok-checked_mul.ensures in
    ap option_of c.from_residual-in_err-n.ensures ∙ with_over a.most a.radix a.v a.b c.in_ok-d.ensures (omega (arith, m.1, c.ranges.most.fits, c.in_err-n.ensures))

pub returns-then-n-most : goal.returns-then-n-most
returns-then-n-most c =
    let a = c.args in
    let m = c.in_ok-checked_mul.ensures in
    let n = c.in_ok-n.ensures in
    rw (n.1, m.1) (with_in a.most a.radix a.v a.b c.in_ok-d.ensures (omega (arith, m.1, n.1)))

pub returns-else-n-most : goal.returns-else-n-most
returns-else-n-most c =
    let a = c.args in
    let m = c.in_ok-checked_mul.ensures in
    let n = c.in_ok-n.ensures in
    with_over a.most a.radix a.v a.b c.in_ok-d.ensures (omega (arith, m.1, n.1))
