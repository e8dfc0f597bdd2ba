-- What the loop of `join::marks::carry_marks` keeps true.
use Prim.Native.Nat.{◌≤◌}
use Rattle.ground.specs.Rules.{rules_of}
use Rattle.lines.specs.Marks.{lows_of, highs_of}
use Rattle.build.specs.State.{used}
use Rattle.build.specs.Added.{used_words}
use Rattle.join.specs.Current.{used_lines}
use Rattle.join.specs.Workspaces.{SameListing}
use Rattle.join.proofs.Carrying.{Carrying}
use Rattle.join.proofs.marks.carry_marks.Given as goal

abbrev pub invariant-loop-k : goal.invariant-loop-k
invariant-loop-k l =
    let w = l.initial.room in
    record {
      inside : l.k ≤ l.size.lines;
      carrying : Carrying (rules_of l.rules) l.tape (used w.area.now l.size) (used_words w.tokens.now l.size) (used_lines w.lines.now l.size) l.j (lows_of w.marks.now)
          (highs_of w.marks.now) l.given.low l.given.high l.k (lows_of l.room.marks.now) (highs_of l.room.marks.now);
      rest : SameListing w l.room;
    }
