-- `tallies::addresses::is_within` meets its contract. Assumes nothing.
use mathlib.Core.Path.{sym, ◌∙◌}
use borrow.Author.Tests.{le-leb, lt-leb}
use Rattle.std.proofs.Common.{leb}
use Rattle.laws.proofs.Scans.{and_true, and_false}
use Rattle.tallies.proofs.addresses.is_within.Goals as goal

pub returns-then-lowest-low : goal.returns-then-lowest-low
returns-then-lowest-low c = sym (and_true (leb c.args.high c.args.highest) (le-leb _ _ c.if-lowest-low.true))

pub returns-else-lowest-low : goal.returns-else-lowest-low
returns-else-lowest-low c =
    lt-leb _ _ c.if-lowest-low.false ∙ sym (and_false (leb c.args.high c.args.highest) (lt-leb _ _ c.if-lowest-low.false))
