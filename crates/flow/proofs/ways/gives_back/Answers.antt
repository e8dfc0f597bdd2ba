-- `flow::ways::gives_back` meets its contract. Assumes nothing.
use native.Mathlib.Omega.{arith}
use Rattle.flow.proofs.Named.{gives_at, gives_not}
use Rattle.flow.proofs.ways.gives_back.Goals as goal
use Rattle.flow.proofs.ways.gives_back.Goals.{then-n-lt2, else-n-lt2}

pub returns-then-n-eq0 : goal.returns-then-n-eq0
returns-then-n-eq0 c =
    let g = c.args.listing.now in
    gives_not g.texts.tape.now g.texts.area.now g.tokens.now c.args.l c.line_of-line.ensures c.if-n-eq0.true

pub returns : goal.returns
returns c =
    let g = c.args.listing.now in
    gives_at g.texts.tape.now g.texts.area.now g.tokens.now c.args.l c.line_of-line.ensures (omega arith) _
    (elim c.if-n-lt2.branch [ then-n-lt2 w ↦ omega (arith, w.at-is) | else-n-lt2 w ↦ omega (arith, w.at-is) ]) c.is_kw.ensures
