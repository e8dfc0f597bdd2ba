-- `join::attempt::plan_at` meets its contract. Assumes nothing.
use native.Mathlib.Omega.{arith}
use lib.ListN.{length-take}
use Rattle.join.proofs.attempt.plan_at.Goals as goal

pub decide-requires : goal.decide-requires
decide-requires c =
    let l = c.listing-listing.ensures in
    let r = c.requires.0 in
    rw (l.tape_is, l.area_is, l.tokens_are, l.lines_are) (
      (r.current.listed, r.labelled),
      r.slotted,
      omega (arith, c.requires.1, r.current.lines_fit, length-take c.args.size.lines c.args.room.now.lines.now),
    )

pub returns : goal.returns
returns c = let l = c.listing-listing.ensures in rw (l.tape_is, l.area_is, l.tokens_are, l.lines_are) at c.decide.ensures
