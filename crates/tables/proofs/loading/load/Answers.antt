-- `tables::loading::load` meets its contract: the tables hold the records that the tape filled. Assumes nothing.
use Prim.Native.Nat.{◌≤◌}
use native.Mathlib.Omega.{arith}
use lib.ListN.{length}
use Rattle.tables.proofs.loading.Records.{holding-front}
use Rattle.tables.proofs.loading.Marks.{marking-front, loaded-marks}
use Rattle.tables.proofs.loading.load.Goals as goal

pub returns-clause-loaded : goal.returns-clause-loaded
returns-clause-loaded c = let d = c.in_ok-totals.ensures.recorded in
    let records = c.fill.new.records in
    let few : c.in_ok-totals.totals.lines ≤ length records = omega (arith, d.few, c.fill.auto.records, c.requires.4) in
    let holding = holding-front records c.in_ok-totals.totals.lines few c.spread.ensures.0 in
    let marking = marking-front records c.in_ok-totals.totals.lines few c.spread.ensures.1 in
    (d.loaded _ _ holding, loaded-marks d holding marking)
