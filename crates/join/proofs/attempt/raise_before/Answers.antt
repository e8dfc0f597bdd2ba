-- `join::attempt::raise_before` meets its contract. Assumes nothing.
use Rattle.ground.specs.Rules.{rules_of}
use Rattle.join.proofs.Cautioning.{joinable}
use Rattle.join.proofs.attempt.raise_before.Goals as goal

pub before_join-requires : goal.before_join-requires
before_join-requires c =
    let l = c.listing-listing.ensures in
    let p = c.requires in
    (joinable (rules_of c.args.rules) c.args.tape.now c.args.room.now c.args.size c.args.j p.0 p.1 p.2 p.3 l, rw (l.tape_is, l.area_is, l.tokens_are, l.lines_are) p.4)

pub returns : goal.returns
returns c =
    let l = c.listing-listing.ensures in
    let b = c.before_join.ensures in
    record { halfway = rw (l.tape_is, l.area_is, l.tokens_are, l.lines_are) at b.halfway; lent = b.lent }
