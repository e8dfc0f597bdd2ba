-- `join::marks::is_target` meets its contract. Assumes nothing.
use native.Mathlib.Omega.{arith}
use lib.ListN.{length-take}
use Rattle.join.proofs.marks.is_target.Goals as goal

pub is_changed-requires : goal.is_changed-requires
is_changed-requires c =
    let l = c.listing-listing.ensures in
    let r = c.requires in
    let n = c.args.size.lines in
    rw (l.tape_is, l.area_is, l.tokens_are, l.lines_are)
    (r.0.listed.at c.args.k (omega (arith, r.1, r.0.lines_fit, length-take n c.args.room.now.lines.now)), r.2)

pub returns : goal.returns
returns c source = let l = c.listing-listing.ensures in rw (l.tape_is, l.area_is, l.tokens_are, l.lines_are) at c.is_changed.ensures source
