-- `start::reckoning::assign_line` meets its contract. Assumes nothing.
use mathlib.Core.Path.{refl}
use Rattle.start.proofs.Pricing.{target-points, line_assigned, line_unassigned, broken}
use Rattle.start.proofs.reckoning.assign_line.Goals as goal

pub overwrite-requires : goal.overwrite-requires
overwrite-requires c =
    (c.requires.0, target-points _ _ _ c.args.l _ c.first.ensures c.requires.1 c.requires.0, c.requires.2)

pub returns-in-Some : goal.returns-in-Some
returns-in-Some c =
    line_assigned _ _ _ c.args.l _ c.first.ensures c.requires.1 _ _ c.behind_first.ensures _ c.in-Some.is c.overwrite.ensures

pub returns-in_default : goal.returns-in_default
returns-in_default c =
    line_unassigned _ _ _ c.args.l _ refl c.requires.1 _ _ c.behind_first.ensures (broken c.behind_first.result c.in_default.not-Some)
