-- `printing::put_decimal` meets its contract. Assumes nothing.
use mathlib.Core.Path.{◌∙◌}
use native.Mathlib.Omega.{arith}
use Rattle.printing.proofs.Decimals.{few-digits, decimal-spelt}
use Rattle.printing.proofs.put_decimal.Goals as goal

pub put-requires : goal.put-requires
put-requires c =
    let d = c.decimal-k in
    omega (arith, d.ensures.in_bounds, few-digits _ c.ranges.n.fits d.ensures.len)

pub returns : goal.returns
returns c =
    let d = c.decimal-k in
    rw (d.ensures.digits ∙ decimal-spelt _ c.ranges.n.fits d.ensures.len) at c.put.ensures
