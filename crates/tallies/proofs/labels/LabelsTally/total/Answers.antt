-- `total` of tallies::labels meets its contract. Assumes nothing.
use mathlib.Core.Path.{ap, ◌∙◌}
use mir.Val.{bool_byte}
use Rattle.tallies.proofs.Adding.{last-label, last-other, not_label}
use Rattle.tallies.proofs.labels.LabelsTally.total.Goals as goal
use Rattle.tallies.proofs.labels.LabelsTally.total.Goals.{in-Label, in_default}

pub returns : goal.returns
returns c = elim c.match-matches.branch [
  | in-Label w ↦ last-label c.args.self (c.from.ensures ∙ ap bool_byte w.matches-is) (rw w.in-Label.is)
  | in_default w ↦ last-other c.args.self (c.from.ensures ∙ ap bool_byte w.matches-is) (not_label c.args.self.shape w.in_default.not-Label)
]
