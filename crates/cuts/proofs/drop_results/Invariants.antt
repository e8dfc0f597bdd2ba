-- What the loop of `cuts::drop_results` keeps true.
use Rattle.ground.specs.Rules.{rules_of}
use Rattle.cuts.proofs.Cutting.{Cutting}
use Rattle.cuts.proofs.Cautioning.{Cautioning}
use Rattle.cuts.proofs.drop_results.Given as goal

abbrev pub invariant-loop-i : goal.invariant-loop-i
invariant-loop-i l =
    let t = l.texts in
    Cutting (rules_of l.rules) t.tape.now t.area.now l.tokens l.initial.lines l.labels l.lines l.cut l.i
    × Cautioning (rules_of l.rules) t.tape.now t.area.now l.tokens l.initial.lines l.labels l.initial.raising l.lines l.raising l.i
