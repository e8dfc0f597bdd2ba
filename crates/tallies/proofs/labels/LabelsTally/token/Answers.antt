-- `token` of tallies::labels meets its contract. Assumes nothing.
use mathlib.Core.Path.{refl}
use Rattle.reference.specs.Listing.{token}
use Rattle.tallies.proofs.Adding.{labels_token}
use Rattle.tallies.proofs.labels.LabelsTally.token.Goals as goal

pub returns-clause-counts : goal.returns-clause-counts
returns-clause-counts c = labels_token (token c.args.kind c.args.text.now) c.args.self c.with.ensures refl
