-- `flow::handed::unspelt_at` meets its contract. Assumes nothing.
use mathlib.Core.Path.{ap, ◌∙◌}
use Rattle.ground.specs.Rules.{rules_of}
use Rattle.lines.specs.Texts.{tokens_of}
use Rattle.flow.specs.Handed.{spells_none, unspelt_at}
use Rattle.flow.proofs.Tables.{table_tokens}
use Rattle.flow.proofs.handed.unspelt_at.Goals as goal

pub returns : goal.returns
unfolding unspelt_at
returns c =
    let g = c.args.g.now in
    c.spells_none.ensures ∙ ap (spells_none (rules_of c.args.rules)) (ap (tokens_of g.listing.texts) c.line_of-line.ensures ∙ table_tokens g c.args.k c.requires.1)
