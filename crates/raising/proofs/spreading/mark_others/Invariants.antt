-- What the loop of `raising::spreading::mark_others` keeps true: the lines before k are done, and what is found so far and in those that come
-- is all. Assumes nothing.
use Rattle.std.proofs.Common.{◌≡◌}
use Rattle.reference.specs.Control.{◌or◌}
use Rattle.reference.specs.Lists.{any}
use Rattle.cautions.specs.Forms.{reached_from}
use Rattle.lines.specs.Texts.{bare_listing, fam_text}
use Rattle.raising.specs.Others.{dark_at, stale_at}
use Rattle.raising.proofs.Putting.{from_on, Marking}
use Rattle.raising.proofs.spreading.mark_others.Given as goal

abbrev pub invariant-loop-k : goal.invariant-loop-k
invariant-loop-k l =
    let ls = bare_listing l.g.listing in
    let fam = fam_text l.g.listing.texts l.f in
    ((l.found.dark or from_on (dark_at ls l.i l.parts) l.seen l.k) ≡ any (dark_at ls l.i l.parts) (reached_from 0 l.seen))
    × ((l.found.stale or from_on (stale_at ls l.i l.parts fam) l.seen l.k) ≡ any (stale_at ls l.i l.parts fam) (reached_from 0 l.seen))
    × Marking ls l.i fam l.parts l.seen l.initial.sets l.k l.sets
