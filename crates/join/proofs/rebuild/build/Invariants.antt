-- What the loop of `join::rebuild::build` keeps true.
use Rattle.ground.specs.Rules.{rules_of}
use Rattle.build.specs.Builders.{SameLent}
use Rattle.join.specs.Builders.{Upto}
use Rattle.join.proofs.rebuild.build.Given as goal

abbrev pub invariant-loop-k : goal.invariant-loop-k
invariant-loop-k l =
    record {
      upto : Upto (rules_of l.rules) l.texts l.tokens l.initial.lines l.j l.k l.second l.lines;
      lent : SameLent l.initial.second l.second;
    }
