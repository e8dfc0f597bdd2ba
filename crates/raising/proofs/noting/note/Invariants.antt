-- What the loop of `raising::noting::note` keeps true: the lines before line k are noted. Assumes nothing.
use Rattle.std.proofs.Common.{◌≡◌, length}
use Rattle.ground.specs.Rules.{rules_of}
use Rattle.raising.specs.Noting.{fam_of, lines_of, plan_of}
use Rattle.raising.proofs.Told.{Noting}
use Rattle.raising.proofs.noting.note.Given as goal

abbrev pub invariant-loop-k : goal.invariant-loop-k
invariant-loop-k l = record {
  noting : Noting (rules_of l.n.rules) (lines_of l.n) l.n.plan.line (plan_of l.n) (fam_of l.n) l.k l.passed l.parts;
  long : length l.parts ≡ length l.initial.parts;
}
