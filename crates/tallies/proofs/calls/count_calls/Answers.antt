-- `tallies::calls::count_calls` meets its contract. Assumes nothing.
use native.Mathlib.Omega.{arith}
use mathlib.Core.Path.{refl}
use mathlib.Core.Bool.{false}
use Rattle.tape.specs.Held.{commands, tokens_of}
use Rattle.tallies.proofs.Adding.{calls-zero}
use Rattle.tallies.proofs.calls.count_calls.Goals as goal

pub returns : goal.returns
returns c = let a = c.args in
    let none = calls-zero a.name.now (record { name = a.name; count = 0; begun = false; named = false }) refl refl (tokens_of (commands a.tape.now)) in
    omega (arith, c.count.ensures)
