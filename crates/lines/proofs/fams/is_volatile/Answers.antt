-- `lines::fams::is_volatile` meets its contract. Assumes nothing.
use Rattle.lines.proofs.fams.Families.{not_listed, listed_as}
use Rattle.lines.proofs.fams.is_volatile.Goals as goal

pub returns-in_default : goal.returns-in_default
returns-in_default c = let a = c.args in not_listed _ _ a.rules.convention a.f c.requires (c.in_default.ensures)

pub returns : goal.returns
returns c = let a = c.args in listed_as _ _ a.rules.convention a.f c.requires (c.in-Some.ensures) c.overwritten.ensures
