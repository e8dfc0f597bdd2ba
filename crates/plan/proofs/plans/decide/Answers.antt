-- `plan::plans::decide` meets its contract. Assumes nothing.
use Rattle.std.proofs.Common.{rules, refl}
use Rattle.plan.proofs.Deciding.{decide-addressed, deciding}
use Rattle.plan.proofs.plans.decide.Goals as goal

pub returns-in_err-d : goal.returns-in_err-d
returns-in_err-d c = search (rules, refl, deciding)

pub returns-then-is_addressed : goal.returns-then-is_addressed
returns-then-is_addressed c =
    decide-addressed _ _ _ _ _ _ _ _ c.requires.2 c.line_of.ensures c.definition_of.ensures c.in_ok-d.was c.is_addressed.ensures c.if-is_addressed.true refl

pub returns : goal.returns
returns c = search (rules, refl, deciding)
