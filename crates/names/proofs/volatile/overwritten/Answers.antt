-- `names::volatile::overwritten` meets its contract. Assumes nothing.
use Rattle.std.proofs.Common.{◌∙◌, rules}
use Rattle.names.proofs.Volatiles.{by_number, volatile_0, volatile_1, volatile_2}
use Rattle.names.proofs.volatile.overwritten.Goals as goal

pub returns-in-0 : goal.returns-in-0
returns-in-0 c = let a = c.args in c.contains.ensures.value ∙ by_number (volatile_0 a.convention c.in-0.is) a.number

pub returns-in-1 : goal.returns-in-1
returns-in-1 c = let a = c.args in c.contains-in-1.ensures.value ∙ by_number (volatile_1 a.convention c.in-1.is) a.number

pub returns-in_default : goal.returns-in_default
returns-in_default c =
    let a = c.args in
    c.contains-in_default.ensures.value ∙ by_number (volatile_2 a.convention (search rules) (search rules)) a.number
