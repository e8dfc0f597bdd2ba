-- `solving::left` meets its contract. Assumes nothing.
use Rattle.std.proofs.Common.{◌∙◌, mod-eq_of_lt, arith}
use Rattle.solving.proofs.Solving.{left_even, left_odd, sub_back}
use Rattle.solving.proofs.left.Goals as goal

pub returns-then-c-eq0 : goal.returns-then-c-eq0
returns-then-c-eq0 c = left_even 63 _ _ c.ranges.c.fits (omega arith) ∙ mod-eq_of_lt c.ranges.c.fits

pub returns-else-c-eq0 : goal.returns-else-c-eq0
returns-else-c-eq0 c =
    left_odd 63 _ _ c.ranges.c.fits _ c.requires (omega (arith, c.if-c-eq0.false)) (sub_back c.args.c c.args.a c.ranges.c.fits c.ranges.a.fits)
    ∙ mod-eq_of_lt c.ranges.c.fits
