-- `test_leaves::asking::overwrites` meets its contract: a family that has no row is a part of the name. Assumes nothing.
use mathlib.Core.Path.{sym, ap, ◌∙◌}
use lib.Seq.{length-take-le}
use Rattle.std.specs.Prelude.{Some}
use Rattle.reference.specs.Options.{option_of}
use Rattle.test_leaves.proofs.Answering.{front_in, overwrites-row, overwrites-numbered, overwrites_unnumbered, overwrites_none}
use Rattle.test_leaves.proofs.asking.overwrites.Goals as goal

pub slice_bounds-number_of-end : goal.slice_bounds-number_of-end
slice_bounds-number_of-end c =
    sym (length-take-le _ _ (front_in _ c.family.ensures (c.in-Some-Front.is ∙ ap Some c.in-Some-Front.field-0-is)))

pub returns-in-Some-Row : goal.returns-in-Some-Row
returns-in-Some-Row c =
    c.overwritten.ensures ∙ overwrites-row _ c.family.ensures _ (c.in-Some-Row.is ∙ ap Some c.in-Some-Row.field-0-is)

pub returns-in-Some : goal.returns-in-Some
returns-in-Some c =
    c.overwritten-in-Some.ensures
    ∙ overwrites-numbered _ c.family.ensures _ (c.in-Some-Front.is ∙ ap Some c.in-Some-Front.field-0-is) (sym (ap option_of c.in-Some.is) ∙ c.number_of.ensures)

pub returns-in-None-number_of : goal.returns-in-None-number_of
returns-in-None-number_of c =
    overwrites_unnumbered _ c.family.ensures _ (c.in-Some-Front.is ∙ ap Some c.in-Some-Front.field-0-is)
    (sym (ap option_of c.in-None-number_of.is) ∙ c.number_of.ensures)

pub returns-in-None : goal.returns-in-None
returns-in-None c = overwrites_none _ c.family.ensures _ c.in-None.is
