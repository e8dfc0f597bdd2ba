-- What the loops of `start::reckoning::fill` keep true.
use mathlib.Core.Path.{◌≡◌}
use mathlib.Core.List.{List}
use mathlib.Core.Option.{some}
use lib.ListN.{length}
use Rattle.start.specs.Start.{Entry, entries}
use Rattle.start.specs.Pairs.{start_pairs}
use Rattle.start.specs.Formulas.{tokens_in, HasRoom}
use Rattle.start.proofs.Pricing.{FilledTo}
use Rattle.start.proofs.reckoning.fill.Given as goal

abbrev pub invariant-loop-k : goal.invariant-loop-k
invariant-loop-k l =
    ((es : List Entry) → entries l.starts.list.now ≡ some es → FilledTo (start_pairs l.starts.chosen.now es) (tokens_in l.formula) l.k l.values)
    × (length l.values ≡ length l.initial.values) × HasRoom l.formula l.values
