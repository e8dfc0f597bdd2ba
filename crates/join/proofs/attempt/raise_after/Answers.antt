-- `join::attempt::raise_after` meets its contract. Assumes nothing.
use native.Mathlib.Omega.{arith}
use lib.Seq.{length-take-le}
use Rattle.join.proofs.attempt.raise_after.Goals as goal

pub after_join-requires : goal.after_join-requires
after_join-requires c =
    let l = c.listing-listing.ensures in
    let p = c.requires in
    let long = length-take-le c.args.size.lines c.args.room.now.lines.now p.0.lines_fit in
    rw (l.tape_is, l.area_is, l.tokens_are, l.lines_are) (p.0.listed, omega (arith, long, p.1), omega (arith, long, p.2), p.3)

pub returns : goal.returns
returns c =
    let l = c.listing-listing.ensures in
    let a = c.after_join.ensures in
    record { raised = rw (l.tape_is, l.area_is, l.tokens_are, l.lines_are) at a.raised; lent = a.lent }
