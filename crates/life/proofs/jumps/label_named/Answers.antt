-- `life::jumps::label_named` meets its contract. Assumes nothing.
use Rattle.std.proofs.Common.{rules}
use Rattle.std.proofs.lemmas.Iterator.Adapters.{YieldsList-from_rev_slice}
use Rattle.lines.specs.Texts.{text_of}
use Rattle.life.proofs.Backwards.{serves_labels, label_found}
use Rattle.life.proofs.jumps.label_named.Goals as goal

pub find-requires-clause-callable : goal.find-requires-clause-callable
find-requires-clause-callable c =
    let a = c.args.scope.now in
    let g = a.listing in
    serves_labels g.texts.tape.now g.texts.area.now g.tokens.now g.lines.now a.labels.now c.requires.0.1 (YieldsList-from_rev_slice a.labels.now (search rules)) (λ x q k. search rules)
    (λ x b l. search rules)

pub returns : goal.returns
returns c =
    let a = c.args.scope.now in
    let g = a.listing in
    label_found g.texts.tape.now g.texts.area.now g.tokens.now g.lines.now a.labels.now c.requires.0.1 (text_of g.texts c.args.w) _ _ _
    c.find.ensures.ran (YieldsList-from_rev_slice a.labels.now (search rules)) (λ x b q k. search rules)
