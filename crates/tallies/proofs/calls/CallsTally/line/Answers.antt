-- `line` of tallies::calls meets its contract. Assumes nothing.
use mathlib.Core.Path.{refl}
use mathlib.Core.Bool.{true, false}
use Rattle.tallies.proofs.Adding.{calls_line}
use Rattle.tallies.proofs.calls.CallsTally.line.Goals as goal

pub returns-clause-counts : goal.returns-clause-counts
returns-clause-counts c =
    let h = calls_line c.args.self.name.now c.args.self {r = record c.args.self { begun = true; named = false }} refl refl refl in
    record { line = λ address indent. record { adds = (h.line address indent).adds } }
