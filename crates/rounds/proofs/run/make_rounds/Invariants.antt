-- What the loop of `rounds::run::make_rounds` keeps true.
use Rattle.std.proofs.Common.{◌-◌}
use Rattle.ground.specs.Rules.{rules_of}
use Rattle.join.specs.Contents.{contents}
use Rattle.join.specs.Workspaces.{SameLent}
use Rattle.raising.specs.Tables as tables
use Rattle.rounds.proofs.Running.{Going}
use Rattle.rounds.proofs.run.make_rounds.Given as goal

abbrev pub invariant-loop : goal.invariant-loop
invariant-loop l =
    let first = l.initial.room in
    Going (rules_of l.rules) (contents l.tape first l.initial.s.size) l.initial.raising l.most (l.most - l.counter) (contents l.tape l.room l.s.size)
    l.raising l.s
    × SameLent first l.room
    × tables.SameLent l.initial.raising l.raising
