-- `usefacts::oldline::has_sums` meets its contract. Assumes nothing.
use Rattle.usefacts.specs.Split.{use_sums}
use Rattle.usefacts.specs.Uses.{asked, fam_in}
use Rattle.usefacts.proofs.Placing.{any_found, any_more, any_end}
use Rattle.usefacts.proofs.oldline.has_sums.Goals as goal

pub returns-then-sums_at : goal.returns-then-sums_at
returns-then-sums_at c =
    let j = c.args.j.now in
    any_found (fam_in j).name j.texts.tape.now j.texts.area.now j.line.now (asked use_sums j) c.loop-u.u c.loop-u-test.true c.sums_at.ensures
    c.loop-u.invariant c.if-sums_at.true

pub loop-u-preserved : goal.loop-u-preserved
loop-u-preserved c =
    let j = c.args.j.now in
    any_more (fam_in j).name j.texts.tape.now j.texts.area.now j.line.now (asked use_sums j) c.loop-u.u c.loop-u-test.true c.sums_at.ensures
    c.loop-u.invariant c.if-sums_at.false

pub returns : goal.returns
returns c =
    let j = c.args.j.now in
    any_end (fam_in j).name j.texts.tape.now j.texts.area.now j.line.now (asked use_sums j) c.loop-u.u c.loop-u-test.false c.loop-u.invariant
