-- `tallies::calls::is_name` meets its contract. Assumes nothing.
use mathlib.Core.Path.{◌∙◌}
use Rattle.reference.specs.Listing.{Symbol}
use Rattle.laws.proofs.Std.{same-std}
use Rattle.tallies.proofs.Adding.{kind_else, kind_yes}
use Rattle.tallies.proofs.calls.is_name.Goals as goal

pub returns-then-kind-eq-SYMBOL : goal.returns-then-kind-eq-SYMBOL
returns-then-kind-eq-SYMBOL c = let a = c.args in
    kind_yes Symbol a.kind a.text.now c.if-kind-eq-SYMBOL.true (c.eq.ensures ∙ same-std a.text.now a.name.now)

pub returns-else-kind-eq-SYMBOL : goal.returns-else-kind-eq-SYMBOL
returns-else-kind-eq-SYMBOL c = kind_else Symbol c.args.kind c.args.text.now _ c.if-kind-eq-SYMBOL.false
