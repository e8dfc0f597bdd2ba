-- `tallies::listing::are_label` meets its contract. Assumes nothing.
use mathlib.Core.Path.{refl}
use Rattle.reference.specs.Listing.{is}
use Rattle.laws.proofs.Scans.{and_first, and_second}
use Rattle.tallies.proofs.listing.are_label.Goals as goal

pub returns-then-same : goal.returns-then-same
unfolding is
returns-then-same c = and_second c.same.ensures c.if-same.true refl

pub returns-else-same : goal.returns-else-same
returns-else-same c = and_first _ c.same.ensures c.if-same.false
