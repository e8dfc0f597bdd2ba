-- `flow::reaching::is_label_line` meets its contract. Assumes nothing.
use mathlib.Core.Path.{refl, sym}
use Rattle.reference.specs.Control.{◌and◌}
use Rattle.flow.specs.declared.lineforms.Form.TheVariants.{Label}
use Rattle.flow.proofs.Tables.{the_form, not_form}
use Rattle.flow.proofs.reaching.is_label_line.Goals as goal

pub returns-in-Label : goal.returns-in-Label
unfolding ◌and◌
returns-in-Label c = rw (the_form Label (c.requires.0.table.each c.args.k c.requires.1).form_is refl c.in-Label.is) refl

pub returns-in_default : goal.returns-in_default
returns-in_default c = sym (not_form Label (c.requires.0.table.each c.args.k c.requires.1).form_is refl c.in_default.not-Label)
