-- `tape::walk::Commands::next` gives the commands in order, with their places. Assumes nothing.
use native.Mathlib.Omega.{arith}
use mathlib.Core.Path.{sym, ◌∙◌}
use Rattle.std.proofs.lemmas.Grind.{common_steps}
use Rattle.tape.specs.Commands.{form_of}
use Rattle.tape.specs.contracts.walk.CommandsIterator.TheImpl as code
use denote.Param.{number}
use Rattle.tape.proofs.commands.Standing.{StandsBy, stands-inside}
use Rattle.tape.proofs.questions.Asking.{looked_inside}
use Rattle.tape.proofs.walk.Following.{stands_ok, none_stands, end_stands, more_stands}
use Rattle.tape.proofs.walk.CommandsIterator.next.Goals as goal
use Rattle.tape.proofs.walk.CommandsIterator.next.Given.{Over}
use Rattle.tape.proofs.walk.CommandsIterator.next.Goals.{In_ok-command}

there : (g : Over) (c : In_ok-command g) → StandsBy (form_of (code.BASED-type (number g.row.BASED))) c.args.self.now.tape.now c.args.self.now.at c.in_ok-command.command
there g c =
    stands_ok (form_of (code.BASED-type (number g.row.BASED))) c.args.self.now.tape.now c.args.self.now.at c.command_at.result c.command_at.ensures
    c.in_ok-command.ensures.value

pub returns-in_err-command-clause-steps : goal.returns-in_err-command-clause-steps
returns-in_err-command-clause-steps g c =
    let e = none_stands (form_of (code.BASED-type (number g.row.BASED))) c.args.self.now.tape.now c.args.self.now.at c.command_at.result c.command_at.ensures
    (sym c.ok.ensures.value ∙ c.in_err-command.was) in
    rw c.from_residual.ensures (e, e)

pub of-requires : goal.of-requires
of-requires g c = looked_inside (there g (goal.at.of-requires g c).In_ok-command)

pub returns-in_err-event-clause-steps : goal.returns-in_err-event-clause-steps
returns-in_err-event-clause-steps g c =
    let e = end_stands (form_of (code.BASED-type (number g.row.BASED))) c.args.self.now.tape.now c.args.self.now.at
    (there g (goal.at.returns-in_err-event-clause-steps g c).In_ok-command) c.in_err-event.ensures in
    rw c.from_residual-in_err-event.ensures (e, e)

pub size_of-requires : goal.size_of-requires
size_of-requires g c = let h = stands-inside (there g (goal.at.size_of-requires g c).In_ok-command) in omega arith

pub overflow_add-self : goal.overflow_add-self
overflow_add-self g c = let h = stands-inside (there g (goal.at.overflow_add-self g c).In_ok-command) in omega (arith, c.size_of.ensures)

pub returns-clause-steps : goal.returns-clause-steps
returns-clause-steps g c =
    let e = more_stands (form_of (code.BASED-type (number g.row.BASED))) c.args.self.now.tape.now c.args.self.now.at
    (there g (goal.at.returns-clause-steps g c).In_ok-command) c.in_ok-event.ensures.0 in
    rw (c.size_of.ensures, c.in_ok-event.ensures.1) e

pub returns-clause-goes : goal.returns-clause-goes
returns-clause-goes g c =
    let e = more_stands (form_of (code.BASED-type (number g.row.BASED))) c.args.self.now.tape.now c.args.self.now.at
    (there g (goal.at.returns-clause-goes g c).In_ok-command) c.in_ok-event.ensures.0 in
    grind (arith, common_steps)
