-- `cuts::drop_dead_results` meets its contract. Assumes nothing.
use Rattle.cuts.proofs.Cutting.{gathered_cuttable, cut-whole}
use Rattle.cuts.proofs.Cautioning.{raised-whole}
use Rattle.cuts.proofs.drop_dead_results.Goals as goal

pub drop_results-requires : goal.drop_results-requires
drop_results-requires c =
    let a = c.args in
    let p = c.requires in
    (gathered_cuttable a.texts.now.tape.now a.texts.now.area.now a.tokens.now a.lines.now c.gather_labels-known.ensures p.0 p.2 p.1, p.4)

pub returns : goal.returns
returns c =
    let a = c.args in
    let d = c.drop_results.ensures in
    let g = c.gather_labels-known.ensures in
    record {
      cut = cut-whole a.texts.now.tape.now a.texts.now.area.now a.tokens.now a.lines.now g _ d.cut;
      raised = raised-whole a.texts.now.tape.now a.texts.now.area.now a.tokens.now a.lines.now g _ d.raised;
      lent = d.lent;
    }
