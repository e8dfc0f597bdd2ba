-- `tallies::calls::opens` meets its contract. Assumes nothing.
use Rattle.reference.specs.Listing.{Punct}
use Rattle.reference.specs.Claim.{opens}
use Rattle.tallies.proofs.Adding.{kind_else, kind_yes}
use Rattle.tallies.proofs.calls.opens.Goals as goal

pub returns-then-kind-eq-PUNCT : goal.returns-then-kind-eq-PUNCT
unfolding opens
returns-then-kind-eq-PUNCT c = kind_yes Punct c.args.kind c.args.text.now c.if-kind-eq-PUNCT.true c.starts.ensures

pub returns-else-kind-eq-PUNCT : goal.returns-else-kind-eq-PUNCT
unfolding opens
returns-else-kind-eq-PUNCT c = kind_else Punct c.args.kind c.args.text.now _ c.if-kind-eq-PUNCT.false
