-- `formula::terms::is_wide` meets its contract. Assumes nothing.
use Rattle.formula.proofs.Worthy.{wide-nothing, wide-narrow, wide_by}
use Rattle.std.proofs.Common.{rules}
use Rattle.formula.proofs.terms.is_wide.Goals as goal

pub returns-in_default : goal.returns-in_default
returns-in_default c = search (rules, wide-nothing)

pub returns-then-n-eq64 : goal.returns-then-n-eq64
returns-then-n-eq64 c = wide_by _ _ _ c.fam_of.ensures _ _ _ c.in-Some.is (search rules) c.text.ensures c.starts.ensures

pub returns-else-n-eq64 : goal.returns-else-n-eq64
returns-else-n-eq64 c = search (rules, wide-narrow)
