-- What the loop of `tallies::listing::line_at` keeps true: the line asked for stands so many lines further on.
use Rattle.std.proofs.Common.{◌≡◌}
use Rattle.reference.specs.Lists.{get}
use Rattle.tape.specs.Held.{held}
use Rattle.tallies.specs.Lines.{lines_left}
use Rattle.tallies.proofs.listing.line_at.Given as goal

abbrev pub invariant-loop-line : goal.invariant-loop-line
invariant-loop-line l = get (lines_left l.line-iterator) l.before ≡ get (held l.tape) l.fn.n
