-- `with` of tallies::addresses::Addresses meets its contract. Assumes nothing.
use mathlib.Core.Path.{ap, ◌∙◌}
use Rattle.std.proofs.Common.{◌+◌}
use Rattle.reference.specs.Claim.{one_if}
use Rattle.tallies.proofs.Adding.{byte_if}
use Rattle.tallies.proofs.addresses.Addresses.with.Goals as goal

pub returns-clause-held : goal.returns-clause-held
returns-clause-held c = byte_if c.args.self.held c.is_held.result c.from.ensures ∙ ap (λ b. c.args.self.held + one_if b) c.is_held.ensures
