-- `flow::reaching::mark_next` meets its contract. Assumes nothing.
use Rattle.lines.specs.Texts.{bare_listing}
use Rattle.flow.proofs.Walking.{after_unknown, after_nowhere, after_one, after_two, after_three, after_cases}
use Prim.Native.Nat.{suc}
use native.Mathlib.Numerals.{add-one}
use Rattle.std.proofs.Math.Seq.{slice}
use Rattle.cautions.specs.Forms.{places}
use Rattle.flow.specs.Reaching.{cases_in}
use Rattle.flow.proofs.reaching.mark_next.Goals as goal

pub returns-in-Unknown : goal.returns-in-Unknown
returns-in-Unknown c = let g = c.args.g.now in after_unknown (bare_listing g.listing) c.args.k _ (rw c.in-Unknown.is at c.next_of.ensures)

pub returns-in-Nowhere : goal.returns-in-Nowhere
returns-in-Nowhere c = let g = c.args.g.now in after_nowhere (bare_listing g.listing) c.args.k _ (rw c.in-Nowhere.is at c.next_of.ensures)

pub returns-in-One : goal.returns-in-One
returns-in-One c = let g = c.args.g.now in after_one (bare_listing g.listing) c.args.k _ (rw c.in-One.is at c.next_of.ensures) c.mark.ensures

pub returns-in-Two : goal.returns-in-Two
returns-in-Two c = let g = c.args.g.now in
    after_two (bare_listing g.listing) c.args.k _ (rw c.in-Two.is at c.next_of.ensures) c.mark-in-Two.ensures c.mark-in-Two-2.ensures

pub returns-in-Three : goal.returns-in-Three
returns-in-Three c = let g = c.args.g.now in
    after_three (bare_listing g.listing) c.args.k _ (rw c.in-Three.is at c.next_of.ensures) c.mark-in-Three.ensures c.mark-in-Three-2.ensures c.mark-in-Three-3.ensures

pub returns-in-Cases : goal.returns-in-Cases
returns-in-Cases c = let g = c.args.g.now in
    let ls = bare_listing g.listing in
    after_cases ls c.args.k c.args.seen.now c.in-Cases.c (cases_in ls (slice (suc c.args.k) c.in-Cases.c (places ls))) (rw c.in-Cases.is at c.next_of.ensures)
    (rw add-one at c.mark_cases.ensures) c.mark-in-Cases.ensures
