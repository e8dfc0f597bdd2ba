-- `plan::reaches::reach_of` meets its contract. Assumes nothing.
use Rattle.std.proofs.Common.{rules, arith, refl}
use Rattle.reference.specs.Rules.{volatile}
use Rattle.ground.specs.Rules.{rules_of}
use Rattle.lines.specs.Texts.{fam_text}
use Rattle.plan.proofs.Reaching.{reached_begin, reached-ended, reached-next, reached_end}
use Rattle.plan.proofs.reaches.reach_of.Goals as goal

pub loop-j-init : goal.loop-j-init
loop-j-init c = search (rules, reached_begin)

pub returns-in-Break : goal.returns-in-Break
returns-in-Break c =
    let a = c.args in
    let g = a.listing.now in
    let l = c.loop-j in
    let h = rw c.followed-v.ensures at c.reach_by_facts.ensures in
    reached-ended g.texts.tape.now g.texts.area.now g.tokens.now g.lines.now a.i (fam_text g.texts a.family) (volatile (rules_of a.rules)) l.j l.r l.invariant (omega (arith, c.loop-j-test.true)) refl
    c.reach_by_facts.result h c.in-Break.is

pub loop-j-preserved : goal.loop-j-preserved
loop-j-preserved c = search (rules, reached-next)

pub returns : goal.returns
returns c = search (rules, reached_end)
