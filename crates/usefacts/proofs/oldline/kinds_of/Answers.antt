-- `usefacts::oldline::kinds_of` meets its contract. Assumes nothing.
use Rattle.usefacts.specs.Split.{use_kinds}
use Rattle.usefacts.specs.Uses.{asked, fam_in}
use Rattle.usefacts.proofs.Placing.{kinds_more, kinds_end}
use Rattle.usefacts.proofs.oldline.kinds_of.Goals as goal

pub loop-u-preserved : goal.loop-u-preserved
loop-u-preserved c =
    let j = c.args.j.now in
    λ lines e.
    kinds_more (fam_in j).name j.texts.tape.now j.texts.area.now j.line.now (λ u. asked use_kinds j u lines) c.loop-u.u c.loop-u.kinds
    c.loop-u-test.true (c.kinds_at-kinds.ensures lines e) (c.loop-u.invariant lines e)

pub returns : goal.returns
returns c =
    let j = c.args.j.now in
    λ lines e.
    kinds_end (fam_in j).name j.texts.tape.now j.texts.area.now j.line.now (λ u. asked use_kinds j u lines) c.loop-u.u c.loop-u.kinds
    c.loop-u-test.false (c.loop-u.invariant lines e)
