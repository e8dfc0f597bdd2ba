-- `raising::spreading::mark_others` meets its contract. Assumes nothing.
use Prim.Native.Nat.{◌<◌}
use native.Mathlib.Omega.{arith}
use mathlib.Core.Path.{refl}
use lib.ListN.{length}
use Rattle.reference.specs.Control.{◌or◌}
use Rattle.lines.specs.Texts.{bare_listing, fam_text}
use Rattle.flow.proofs.Tables.{lines_long}
use Rattle.raising.specs.Others.{dark_at, stale_at}
use Rattle.raising.proofs.Putting.{found_more, found_skipped, found_end, none_dark, none_stale, marking_begun, marking_more, marking_skipped, marking_done}
use Rattle.raising.proofs.spreading.mark_others.Goals as goal
use Rattle.raising.proofs.spreading.mark_others.Goals.{then-seen-k, else-seen-k}

pub loop-k-init : goal.loop-k-init
unfolding ◌or◌
loop-k-init c =
    let a = c.args in
    let g = a.g.now in
    (refl, refl, marking_begun (bare_listing g.listing) a.i (fam_text g.listing.texts a.f) a.parts.now a.seen.now a.sets.now)

pub loop-k-preserved : goal.loop-k-preserved
loop-k-preserved c =
    let a = c.args in
    let g = a.g.now in
    let l = c.loop-k in
    let ls = bare_listing g.listing in
    let fam = fam_text g.listing.texts a.f in
    let h : l.k < length a.seen.now = omega (arith, c.requires.3, c.loop-k-test.true) in
    elim c.if-seen-k.branch [
      | then-seen-k w ↦
          let o = w.other_at-o.ensures in
          let f = w.found_with-found.ensures in
          rw (w.found-is, w.sets-is) (
            found_more (dark_at ls a.i a.parts.now) a.seen.now l.k h l.found.dark f.dark o.dark l.invariant.0,
            found_more (stale_at ls a.i a.parts.now fam) a.seen.now l.k h l.found.stale f.stale o.stale l.invariant.1,
            marking_more ls a.i fam a.parts.now a.seen.now a.sets.now l.k l.sets (omega (arith, c.requires.2, c.loop-k-test.true)) l.invariant.2 o.dark o.stale w.with_kinds.ensures,
          )
      | else-seen-k w ↦
          rw (w.found-is, w.sets-is) (
            found_skipped (dark_at ls a.i a.parts.now) a.seen.now l.k h w.if-seen-k.false l.found.dark l.invariant.0,
            found_skipped (stale_at ls a.i a.parts.now fam) a.seen.now l.k h w.if-seen-k.false l.found.stale l.invariant.1,
            marking_skipped ls a.i fam a.parts.now a.seen.now a.sets.now l.k l.sets w.if-seen-k.false l.invariant.2,
          )
    ]

pub returns-clause-dark : goal.returns-clause-dark
returns-clause-dark c =
    let a = c.args in
    let g = a.g.now in
    let l = c.loop-k in
    let ls = bare_listing g.listing in
    let n = lines_long g in
    found_end (dark_at ls a.i a.parts.now) a.seen.now (length ls) l.k (omega (arith, n, c.requires.3)) (none_dark ls a.i a.parts.now)
    (omega (arith, n, c.loop-k-test.false)) (omega (arith, n, l.auto.k-end)) l.found.dark l.invariant.0

pub returns-clause-stale : goal.returns-clause-stale
returns-clause-stale c =
    let a = c.args in
    let g = a.g.now in
    let l = c.loop-k in
    let ls = bare_listing g.listing in
    let fam = fam_text g.listing.texts a.f in
    let n = lines_long g in
    found_end (stale_at ls a.i a.parts.now fam) a.seen.now (length ls) l.k (omega (arith, n, c.requires.3)) (none_stale ls a.i a.parts.now fam)
    (omega (arith, n, c.loop-k-test.false)) (omega (arith, n, l.auto.k-end)) l.found.stale l.invariant.1

pub returns-clause-sets : goal.returns-clause-sets
returns-clause-sets c =
    let a = c.args in
    let g = a.g.now in
    let l = c.loop-k in
    marking_done (bare_listing g.listing) a.i (fam_text g.listing.texts a.f) a.parts.now a.seen.now a.sets.now (omega (arith, c.loop-k-test.false, l.auto.k-end)) l.invariant.2
