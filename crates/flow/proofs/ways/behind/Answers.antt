-- `flow::ways::behind` meets its contract. Assumes nothing.
use mathlib.Core.Path.{refl}
use Rattle.lines.specs.Texts.{bare_listing}
use Rattle.flow.specs.declared.lineforms.Form.TheVariants.{Else}
use Rattle.flow.proofs.Tables.{table_form, the_form, not_form}
use Rattle.flow.proofs.Nexts.{behind_else, behind_other}
use Rattle.flow.proofs.ways.behind.Goals as goal

pub returns-in-Else : goal.returns-in-Else
returns-in-Else c = let g = c.args.g.now in
    behind_else (bare_listing g.listing) 0 c.args.c (the_form Else (table_form g c.args.c c.requires.0 c.requires.1) refl c.in-Else.is)

pub returns-in_default : goal.returns-in_default
returns-in_default c = let g = c.args.g.now in
    behind_other (bare_listing g.listing) 0 c.args.c (not_form Else (table_form g c.args.c c.requires.0 c.requires.1) refl c.in_default.not-Else)
