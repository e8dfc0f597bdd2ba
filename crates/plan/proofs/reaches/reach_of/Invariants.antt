-- What the loop of `plan::reaches::reach_of` keeps true: the answer is what is reached from line j on. Assumes nothing.
use Rattle.reference.specs.Rules.{volatile}
use Rattle.ground.specs.Rules.{rules_of}
use Rattle.lines.specs.Texts.{fam_text}
use Rattle.plan.proofs.Reaching.{Reached}
use Rattle.plan.proofs.reaches.reach_of.Given as goal

abbrev pub invariant-loop-j : goal.invariant-loop-j
invariant-loop-j l =
    let g = l.listing in
    Reached g.texts.tape.now g.texts.area.now g.tokens.now g.lines.now l.i (fam_text g.texts l.family) (volatile (rules_of l.fn.rules)) l.j l.r
