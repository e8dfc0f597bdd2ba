-- What the loop of `life::liveness::killed_first` keeps true: the answer is that of the lines that are left. Assumes nothing.
use Rattle.std.proofs.Common.{◌≡◌, drop}
use Rattle.reference.specs.Life.{killed_first}
use Rattle.reference.specs.Rules.{volatile}
use Rattle.lines.specs.Lines as Lines
use Rattle.ground.specs.Rules.{rules_of}
use Rattle.lines.specs.Texts.{bare_listing, fam_text}
use Rattle.life.proofs.liveness.killed_first.Given as goal

abbrev pub invariant-loop-l : goal.invariant-loop-l
invariant-loop-l l =
    let g = l.listing in
    let fam = fam_text g.texts l.v.family in
    let rest = Lines.bare_listing g.texts.tape.now g.texts.area.now g.tokens.now (drop l.l-index g.lines.now) in
    killed_first (bare_listing g) fam l.v.indent (volatile (rules_of l.v.rules)) ≡ killed_first rest fam l.v.indent (volatile (rules_of l.v.rules))
