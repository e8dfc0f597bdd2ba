-- `formula::breaches::begins_with` meets its contract. Assumes nothing.
use Rattle.std.proofs.Common.{◌∙◌}
use Rattle.formula.proofs.Testing.{at_front, leads}
use Rattle.formula.proofs.breaches.begins_with.Goals as goal

pub behind-requires : goal.behind-requires
behind-requires c = (c.requires, at_front _ _ _ c.requires)

pub returns : goal.returns
returns c = c.is_some.ensures ∙ leads c.args.before.now c.behind.ensures
