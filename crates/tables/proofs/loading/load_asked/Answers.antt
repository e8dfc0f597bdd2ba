-- `tables::loading::load_asked` meets its contract: a command that passed the questions is taken. Assumes nothing.
use mathlib.Core.Path.{sym}
use Rattle.reference.proofs.Reading.{command_passed}
use Rattle.tape.proofs.commands.Standing.{stands}
use Rattle.tables.proofs.loading.Taking.{takes, lays}
use Rattle.tables.proofs.loading.load_asked.Goals as goal

pub add_token-requires : goal.add_token-requires
add_token-requires c =
    let p = command_passed c.args.reader.tape.now c.args.reader.at _ _ (sym c.in_ok-step.ensures.result_value) in
    (takes c.requires.0 c.in_ok-step.step.command (stands c.in_ok-step.ensures.stands) p.0, c.requires.1)

pub lay-requires : goal.lay-requires
lay-requires c =
    let p = command_passed c.args.reader.tape.now c.args.reader.at _ _ (sym c.in_ok-step.ensures.result_value) in
    lays c.requires.0 c.in_ok-step.step.command (stands c.in_ok-step.ensures.stands) p.0
