-- What the loop of `join::patch::patch_lines` keeps true.
use Prim.Native.Nat.{◌≤◌}
use lib.ListN.{length}
use Rattle.ground.specs.Rules.{rules_of}
use Rattle.lines.specs.Marks.{lows_of, highs_of}
use Rattle.build.specs.Builders.{SameLent}
use Rattle.join.specs.Builders.{Patching}
use Rattle.join.proofs.Carrying.{Carrying}
use Rattle.join.proofs.patch.patch_lines.Given as goal

abbrev pub invariant-loop-k : goal.invariant-loop-k
invariant-loop-k l =
    record {
      inside : l.k ≤ length l.initial.lines;
      patching : Patching (rules_of l.rules) l.texts l.tokens l.initial.lines l.j l.initial.second.size l.k l.second l.lines;
      carrying : Carrying (rules_of l.rules) l.texts.tape.now l.texts.area.now l.tokens l.initial.lines l.j (lows_of l.initial.marks) (highs_of l.initial.marks)
          l.given.low l.given.high l.k (lows_of l.marks) (highs_of l.marks);
      lent : SameLent l.initial.second l.second;
    }
