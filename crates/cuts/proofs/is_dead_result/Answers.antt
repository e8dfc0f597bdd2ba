-- `cuts::is_dead_result` meets its contract. Assumes nothing.
use Rattle.cuts.proofs.Cutting.{dead_not, dead_then}
use Rattle.cuts.proofs.is_dead_result.Goals as goal

pub returns-then-keeps_result : goal.returns-then-keeps_result
returns-then-keeps_result c =
    let g = c.args.scope.now.listing in
    dead_then _ g.texts.tape.now g.texts.area.now g.tokens.now g.lines.now c.args.scope.now.labels.now c.args.i c.requires.1
    c.line_of-line.ensures c.keeps_result.ensures c.if-keeps_result.true c.indent.ensures c.dead_after.ensures

pub returns-else-keeps_result : goal.returns-else-keeps_result
returns-else-keeps_result c =
    let g = c.args.scope.now.listing in
    dead_not _ g.texts.tape.now g.texts.area.now g.tokens.now g.lines.now c.args.scope.now.labels.now c.args.i c.requires.1
    c.line_of-line.ensures c.keeps_result.ensures c.if-keeps_result.false
