-- `usefacts::oldline::count_joined` meets its contract. Assumes nothing.
use native.Mathlib.Omega.{arith}
use mathlib.Core.Path.{sym, ◌∙◌}
use Rattle.reference.specs.Listing.{is, Number}
use Rattle.reference.specs.Names.{of_family}
use Rattle.usefacts.specs.Uses.{expr_in, fam_in, line_in}
use Rattle.usefacts.proofs.Placing.{product-few, sum-few, count_substituted, added}
use Rattle.usefacts.proofs.oldline.count_joined.Goals as goal

pub overflow_mul-result : goal.overflow_mul-result
overflow_mul-result c =
    let j = c.args.j.now in
    let h = product-few (of_family (fam_in j).name) (is Number) j.texts.tape.now j.texts.area.now j.line.now j.expr.now
    c.count_of.ensures c.count_numbers-more.ensures c.requires.line_few c.requires.expr_few in
    omega (arith, h)

pub overflow_add-result : goal.overflow_add-result
overflow_add-result c =
    let j = c.args.j.now in
    let h = sum-few (of_family (fam_in j).name) (is Number) j.texts.tape.now j.texts.area.now j.line.now j.expr.now
    c.count_of.ensures c.count_numbers-more.ensures c.requires.line_few c.requires.expr_few c.count_numbers-own.ensures in
    omega (arith, h)

pub returns : goal.returns
returns c =
    let j = c.args.j.now in
    added c.count_numbers-own.ensures c.count_of.ensures c.count_numbers-more.ensures ∙ sym (count_substituted (fam_in j).name (expr_in j) (line_in j))
