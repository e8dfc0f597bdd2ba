-- What the loop of `life::dead::dead_after` keeps true: the answer is that of the lines from w on. Assumes nothing.
use Rattle.std.proofs.Common.{◌≡◌}
use Rattle.reference.specs.Life.{dead_after}
use Rattle.reference.specs.Rules.{volatile}
use Rattle.joining.specs.Places.{labels_at}
use Rattle.ground.specs.Rules.{rules_of}
use Rattle.lines.specs.Texts.{bare_listing, fam_text}
use Rattle.life.proofs.Scanning.{dead-rest}
use Rattle.life.proofs.dead.dead_after.Given as goal

abbrev pub invariant-loop-w : goal.invariant-loop-w
invariant-loop-w l =
    let g = l.scope.listing in
    let fam = fam_text g.texts l.v.family in
    let labels = labels_at (bare_listing g) l.scope.labels.now in
    dead_after (bare_listing g) l.from fam l.v.indent labels l.v.start (volatile (rules_of l.v.rules))
    ≡ dead-rest g.texts.tape.now g.texts.area.now g.tokens.now g.lines.now fam l.v.indent labels l.v.start (volatile (rules_of l.v.rules)) l.w
