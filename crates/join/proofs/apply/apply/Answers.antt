-- `join::apply::apply` meets its contract. Assumes nothing.
use native.Mathlib.Omega.{arith}
use Rattle.join.specs.Workspaces.{need}
use Rattle.join.proofs.Sparing.{enough, is_spare}
use Rattle.join.proofs.apply.apply.Goals as goal

pub patch-requires : goal.patch-requires
patch-requires c =
    let a = c.args in
    let h = enough (need a.room.now a.size a.j) _ c.fits.ensures c.if-fits.true in
    (c.requires.0, c.requires.1, is_spare h (omega arith), is_spare h (omega arith), c.requires.3)

pub rebuild-requires : goal.rebuild-requires
rebuild-requires c =
    let s = c.carry_marks.ensures.rest in
    rw (s.area_is, s.tokens_are, s.lines_are, s.area2_is, s.tokens2_are) (c.requires.0, c.requires.1, c.requires.2)
