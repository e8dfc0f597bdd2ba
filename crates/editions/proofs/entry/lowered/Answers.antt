-- `editions::entry::lowered` meets its contract. Assumes nothing.
use Rattle.editions.specs.Conversion.{down_token, earns_13}
use Rattle.editions.proofs.Replying.{earned_at, finished, lowerable}
use Rattle.editions.proofs.entry.lowered.Goals as goal

pub lower-requires : goal.lower-requires
lower-requires c =
    (lowerable c.args.tape.now c.requires.0 (c.in-None.ensures), c.requires.1)

pub returns-in-Some : goal.returns-in-Some
returns-in-Some c =
    rw c.at.ensures
    (earned_at 13 earns_13 down_token c.args.tape.now c.args.out.now c.requires.1 c.requires.0 c.in-Some.ensures)

pub returns-in-None : goal.returns-in-None
returns-in-None c =
    finished 13 earns_13 down_token c.args.tape.now c.args.out.now c.requires.1 c.requires.0
    (c.in-None.ensures) (c.lower.ensures c.requires.0.listing c.requires.0.reads)
