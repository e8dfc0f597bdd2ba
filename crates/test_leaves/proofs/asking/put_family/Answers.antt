-- `test_leaves::asking::put_family` meets its contract: a family that has no row is a part of the name. Assumes nothing.
use mathlib.Core.Path.{sym, ap, ◌∙◌}
use native.Mathlib.Omega.{arith}
use lib.Seq.{length-take-le}
use Rattle.std.specs.Prelude.{Some}
use Rattle.test_leaves.proofs.Answering.{row_in, front_in, answers-row, answers-front, answers_none}
use borrow.Author.Rules.{rules}
use Rattle.test_leaves.proofs.asking.put_family.Goals as goal

pub put_row-requires : goal.put_row-requires
put_row-requires c =
    (row_in _ c.family.ensures (c.in-Some-Row.is ∙ ap Some c.in-Some-Row.field-0-is), search rules)

pub slice_bounds-put_register-end : goal.slice_bounds-put_register-end
slice_bounds-put_register-end c =
    sym (length-take-le _ _ (front_in _ c.family.ensures (c.in-Some-Front.is ∙ ap Some c.in-Some-Front.field-0-is)))

pub put_register-requires : goal.put_register-requires
put_register-requires c =
    let h = front_in _ c.family.ensures (c.in-Some-Front.is ∙ ap Some c.in-Some-Front.field-0-is) in
    omega (arith, h, length-take-le c.in-Some-Front.length c.args.name.now h)

pub returns-in-Some-Row : goal.returns-in-Some-Row
returns-in-Some-Row c =
    rw (answers-row _ c.family.ensures (c.in-Some-Row.is ∙ ap Some c.in-Some-Row.field-0-is)) c.put_row.ensures

pub returns-in-Some-Front : goal.returns-in-Some-Front
returns-in-Some-Front c =
    rw (answers-front _ c.family.ensures (c.in-Some-Front.is ∙ ap Some c.in-Some-Front.field-0-is)) c.put_register.ensures

pub returns-in-None : goal.returns-in-None
returns-in-None c =
    rw (answers_none _ c.family.ensures c.in-None.is) c.put.ensures
