-- What the loops of `build::fold::fold` keep true, and what falls at each turn.
use Prim.Native.Nat.{◌-◌}
use lib.ListN.{length}
use Rattle.build.proofs.Stepping.{Turning}
use Rattle.build.proofs.fold.fold.Given as goal

abbrev pub invariant-loop-f : goal.invariant-loop-f
invariant-loop-f l = Turning l.edition l.tape l.initial.area l.initial.line l.text l.area l.line l.f

abbrev pub decreases-loop-f : goal.decreases-loop-f
decreases-loop-f l = length l.line - l.f.next
