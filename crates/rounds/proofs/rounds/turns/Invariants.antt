-- What the loops of `rounds::rounds::turns` keep true, and what falls at each turn.
use Rattle.ground.specs.Rules.{rules_of}
use Rattle.plan.specs.Texts.{slot_names}
use Rattle.join.specs.Contents.{contents}
use Rattle.join.specs.Workspaces.{SameLent}
use Rattle.raising.specs.Tables as tables
use Rattle.rounds.proofs.Turning.{left_over, Rounding}
use Rattle.rounds.proofs.rounds.turns.Given as goal

abbrev pub invariant-loop-r : goal.invariant-loop-r
invariant-loop-r l =
    let first = l.initial.room in
    Rounding (rules_of l.rules) (slot_names l.slots) (contents l.tape first l.initial.r.size) l.initial.raising l.initial.labels
    (contents l.tape l.room l.r.size) l.raising l.labels l.r
    × SameLent first l.room
    × tables.SameLent l.initial.raising l.raising

abbrev pub decreases-loop-r : goal.decreases-loop-r
decreases-loop-r l = left_over l.r.size.lines l.r
