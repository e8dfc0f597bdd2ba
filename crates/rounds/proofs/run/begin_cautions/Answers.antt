-- `rounds::run::begin_cautions` meets its contract. Assumes nothing.
use native.Mathlib.Omega.{arith}
use lib.ListN.{length-take}
use Rattle.rounds.proofs.run.begin_cautions.Goals as goal

pub begin-requires : goal.begin-requires
begin-requires c =
    let l = c.listing-listing.ensures in
    let p = c.requires in
    rw (l.tape_is, l.area_is, l.tokens_are, l.lines_are)
    (p.0.listed, omega (arith, p.1, length-take c.args.size.lines c.args.room.now.lines.now), p.2)

pub returns : goal.returns
returns c =
    let l = c.listing-listing.ensures in
    let b = c.begin.ensures in
    record {
      kept = rw (l.tape_is, l.area_is, l.tokens_are, l.lines_are) at b.kept;
      none = rw (l.tape_is, l.area_is, l.tokens_are, l.lines_are) at b.none;
      lent = b.lent;
    }
