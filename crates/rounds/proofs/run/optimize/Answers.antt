-- `rounds::run::optimize` meets its contract. Assumes nothing.
use native.Mathlib.Omega.{arith}
use Rattle.join.specs.Contents.{contents}
use Rattle.raising.proofs.Lending.{tables_then, on_as_before}
use Rattle.rounds.proofs.Lending.{lent_then, lent_written, runnable_again}
use Rattle.rounds.proofs.Turning.{now-few}
use Rattle.rounds.proofs.Running.{run-made, run-cautioned}
use Rattle.rounds.proofs.Facts.{bare_same, limits_same, rounded_same}
use Rattle.rounds.proofs.run.optimize.Goals as goal

pub begin_cautions-requires : goal.begin_cautions-requires
begin_cautions-requires c =
    let p = c.requires in
    (c.note_facts.ensures.current, now-few (contents c.args.tape.now c.args.room.now c.args.size) p.0.current p.0.limits, p.2)

pub make_rounds-s-requires : goal.make_rounds-s-requires
make_rounds-s-requires c =
    let f = c.note_facts in
    let p = c.requires in (
      runnable_again (lent_written c.args.room.now f.new.lines f.auto.lines) f.ensures.current (limits_same f.ensures p.0.limits) p.0,
      p.1,
      c.begin_cautions.ensures.kept,
    )

pub cut_results-cut-requires : goal.cut_results-cut-requires
cut_results-cut-requires c =
    let r = c.make_rounds-s in
    let m = r.ensures in (
      m.rounded.current,
      omega (arith, m.lent.tokens_length, c.requires.0.words_short),
      now-few (contents c.args.tape.now r.new.room r.result.size) m.rounded.current m.rounded.limits,
      omega (arith, r.auto.labels, c.requires.1.for_labels),
      m.rounded.kept,
    )

pub returns : goal.returns
returns c =
    let f = c.note_facts in
    let b = c.begin_cautions.ensures in
    let m = c.make_rounds-s.ensures in
    let d = c.cut_results-cut in
    let rounded = rounded_same f.ensures m.rounded in
    record {
      ran = run-made _ rounded _ d.ensures.cut d.auto.lines _ c.tally_up.ensures;
      cautioned =
          run-cautioned _ rounded _ d.ensures.cut d.auto.lines _ c.tally_up.ensures c.args.raising.now (on_as_before b.lent) (rw (bare_same f.ensures) at b.none)
          (on_as_before m.lent_raising) d.ensures.raised;
      lent =
          lent_then (lent_then (lent_written c.args.room.now f.new.lines f.auto.lines) m.lent)
          (lent_written c.make_rounds-s.new.room d.new.lines d.auto.lines);
      lent_raising = tables_then (tables_then b.lent m.lent_raising) d.ensures.lent;
    }
