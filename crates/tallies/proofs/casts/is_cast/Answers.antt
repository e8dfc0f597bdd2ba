-- `tallies::casts::is_cast` meets its contract. Assumes nothing.
use Rattle.reference.specs.Listing.{Keyword}
use Rattle.reference.specs.Claim.{is_call_mark}
use Rattle.tallies.proofs.Adding.{kind_else, kind_yes}
use Rattle.tallies.proofs.casts.is_cast.Goals as goal

pub returns-then-kind-eq-KEYWORD : goal.returns-then-kind-eq-KEYWORD
unfolding is_call_mark
returns-then-kind-eq-KEYWORD c = kind_yes Keyword c.args.kind c.args.text.now c.if-kind-eq-KEYWORD.true c.starts.ensures

pub returns-else-kind-eq-KEYWORD : goal.returns-else-kind-eq-KEYWORD
unfolding is_call_mark
returns-else-kind-eq-KEYWORD c = kind_else Keyword c.args.kind c.args.text.now _ c.if-kind-eq-KEYWORD.false
