-- `flow::lineforms::classed` meets its contract. Assumes nothing.
use mathlib.Core.Path.{refl, sym}
use mathlib.Core.Bool.{false≢true}
use Rattle.reference.specs.Control.{◌or◌}
use Rattle.flow.proofs.lineforms.classed.Goals as goal

pub returns : goal.returns
unfolding ◌or◌
returns c = record {
  known = λ x. absurd (false≢true (sym x));
  other = λ x.
      rw (
        ← c.same.ensures,
        c.if-same.false,
        ← c.same-2.ensures,
        c.if-same-2.false,
        ← c.same-3.ensures,
        c.if-same-3.false,
        ← c.same-4.ensures,
        c.if-same-4.false,
        ← c.same-5.ensures,
        c.if-same-5.false,
        ← c.same-6.ensures,
        c.if-same-6.false,
        ← c.same-7.ensures,
        c.if-same-7.false,
        ← c.same-8.ensures,
        c.if-same-8.false,
        ← c.same-9.ensures,
        c.if-same-9.false,
        ← c.same-10.ensures,
        c.if-same-10.false,
        ← c.same-11.ensures,
        c.if-same-11.false,
        ← c.same-12.ensures,
        c.if-same-12.false,
        ← c.same-13.ensures,
        c.if-same-13.false,
        ← c.same-14.ensures,
        c.if-same-14.false,
        ← c.same-15.ensures,
        c.if-same-15.false,
        ← c.same-16.ensures,
        c.if-same-16.false,
        ← c.same-17.ensures,
        c.if-same-17.false,
      ) refl;
}
