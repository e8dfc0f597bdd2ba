-- `offsets::writing::moved` meets its contract. Assumes nothing.
use Rattle.offsets.specs.contracts.writing.moved as code
use denote.Param.{number}
use mathlib.Core.Path.{◌≡◌}
use mathlib.Core.Bool.{true, false}
use native.Mathlib.Omega.{arith}
use Rattle.offsets.proofs.Guarantee.{sum_fits, reached}
use Rattle.offsets.proofs.writing.moved.Goals as goal

pub overflow_add-result : goal.overflow_add-result
overflow_add-result g c = let a = c.args in
    let t : code.BASED-type (number g.row.BASED) ≡ true = grind arith in
    omega (arith, sum_fits a.base a.address (rw t at c.requires))

pub overflow_sub-result : goal.overflow_sub-result
overflow_sub-result g c = let a = c.args in
    let t : code.BASED-type (number g.row.BASED) ≡ false = grind arith in
    omega (arith, reached a.base a.address (rw t at c.requires))
