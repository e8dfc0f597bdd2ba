-- `life::jumps::do_before` meets its contract. Assumes nothing.
use Rattle.std.proofs.Common.{rules}
use Rattle.reference.specs.Life.{is_do}
use Rattle.lines.specs.Texts.{bare_in}
use Rattle.life.proofs.Backwards.{serves_lines_back, last_words}
use Rattle.life.proofs.jumps.do_before.Goals as goal

pub rposition-requires-clause-callable : goal.rposition-requires-clause-callable
rposition-requires-clause-callable c =
    serves_lines_back c.requires (search rules) (λ x q k. search rules) (λ x h. search rules)

pub returns : goal.returns
returns c =
    let g = c.args.listing.now in
    last_words (is_do c.args.indent) (bare_in g.texts g.tokens.now) g.lines.now _ _ _ c.rposition.ensures.ran (search rules) (search rules)
    (λ x b q k. search rules)
