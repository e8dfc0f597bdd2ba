-- `editions::entry::raised` meets its contract. Assumes nothing.
use Rattle.std.proofs.Common.{List, ℕ, ap, ◌++◌, length, drop}
use native.Mathlib.Omega.{arith}
use Rattle.editions.specs.Conversion.{up_token, earns_12}
use Rattle.editions.proofs.Replying.{earned_at, finished, copied-up}
use Rattle.editions.proofs.entry.raised.Goals as goal

pub returns-in-Some : goal.returns-in-Some
returns-in-Some c =
    rw c.at.ensures
    (earned_at 12 earns_12 up_token c.args.tape.now c.args.out.now c.requires.1 c.requires.0 c.in-Some.ensures)

pub returns-in-None : goal.returns-in-None
returns-in-None c =
    let copied = ap (λ (t : List ℕ). t ++ drop (length c.args.tape.now) c.args.out.now) c.copy.ensures in
    finished 12 earns_12 up_token c.args.tape.now c.args.out.now c.requires.1 c.requires.0
    (c.in-None.ensures)
    (copied-up c.args.tape.now c.args.out.now c.requires.0 (λ i. omega (arith, c.type_inv.tape i)) (c.in-None.ensures) copied)
