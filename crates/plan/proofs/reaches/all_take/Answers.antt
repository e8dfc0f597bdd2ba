-- `plan::reaches::all_take` meets its contract. Assumes nothing.
use Rattle.std.proofs.Common.{rules}
use Rattle.reference.specs.Rules.{volatile}
use Rattle.ground.specs.Rules.{rules_of}
use Rattle.lines.specs.Texts.{fam_text}
use Rattle.plan.proofs.Reaching.{serves_after, all_after}
use Rattle.plan.proofs.reaches.all_take.Goals as goal

pub all-requires-clause-callable : goal.all-requires-clause-callable
all-requires-clause-callable c =
    let a = c.args in
    let g = a.listing.now in
    serves_after g.texts.tape.now g.texts.area.now g.tokens.now g.lines.now a.i a.last c.requires.0 c.requires.3 (search rules) (search rules) (λ x q k. search rules) (λ x h. search rules)

pub returns : goal.returns
returns c =
    let a = c.args in
    let g = a.listing.now in
    all_after g.texts.tape.now g.texts.area.now g.tokens.now g.lines.now a.i a.last (fam_text g.texts a.family) (volatile (rules_of a.rules)) _ _ _
    c.all.ensures.ran (search rules) (search rules) (λ x b q k. search rules)
