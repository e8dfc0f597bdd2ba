-- `flow::ways::is_named` meets its contract. Assumes nothing.
use borrow.Author.Rules.{rules}
use Rattle.flow.proofs.Named.{label_there, named_not, named_by}
use Rattle.life.proofs.Jumping.{lined-holds}
use Rattle.flow.proofs.ways.is_named.Goals as goal

pub returns-then-not-is_label : goal.returns-then-not-is_label
returns-then-not-is_label c =
    let g = c.args.listing.now in
    named_not g.texts.tape.now g.texts.area.now g.tokens.now c.args.l _ c.line_of-line.ensures c.is_label.ensures (search rules)

pub bounds-line-0 : goal.bounds-line-0
bounds-line-0 c =
    let g = c.args.listing.now in
    label_there g.texts.tape.now g.texts.area.now c.line_of-line.result.now c.is_label.ensures (search rules)

pub text-requires : goal.text-requires
text-requires c =
    let g = c.args.listing.now in
    (lined-holds c.requires.0 c.line_of-line.ensures).at 0 (label_there g.texts.tape.now g.texts.area.now c.line_of-line.result.now c.is_label.ensures (search rules))

pub returns : goal.returns
returns c =
    let g = c.args.listing.now in
    named_by g.texts.tape.now g.texts.area.now g.tokens.now c.args.l _ c.line_of-line.ensures c.is_label.ensures (search rules) (rw (← c.text.ensures, ← c.text-2.ensures) c.same.ensures)
