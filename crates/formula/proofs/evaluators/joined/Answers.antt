-- `formula::evaluators::joined` meets its contract. Assumes nothing.
use native.Mathlib.Omega.{arith}
use Rattle.reference.specs.Evaluators.{plus, minus}
use Rattle.formula.proofs.evaluators.joined.Goals as goal

pub returns-in-Plus : goal.returns-in-Plus
unfolding plus
returns-in-Plus c = rw (c.in-Some.is, c.in-Plus.is)

pub returns-in-Minus : goal.returns-in-Minus
unfolding minus
returns-in-Minus c = rw (c.in-Some.is, c.in-Minus.is) (omega arith)
