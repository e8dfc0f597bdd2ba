-- `flow::ways::label_named` meets its contract. Assumes nothing.
use Rattle.std.proofs.Common.{rules}
use mathlib.Core.Path.{◌∙◌}
use Rattle.lines.specs.Texts.{bare_in, bare_listing, text_of}
use Rattle.life.proofs.Backwards.{serves_lines_back, last_words}
use Rattle.flow.specs.Ways.{is_named}
use Rattle.flow.proofs.Named.{last_named}
use Rattle.flow.proofs.ways.label_named.Goals as goal

pub rposition-requires-clause-callable : goal.rposition-requires-clause-callable
rposition-requires-clause-callable c =
    serves_lines_back c.requires.0 (search rules) (λ x q k. search rules) (λ x h. search rules)

pub returns : goal.returns
returns c =
    let g = c.args.listing.now in
    let name = text_of g.texts c.args.w in
    last_words (is_named name) (bare_in g.texts g.tokens.now) g.lines.now _ _ _ c.rposition.ensures.ran (search rules) (search rules)
    (λ x b q k. search rules) ∙ last_named name (bare_listing g)
