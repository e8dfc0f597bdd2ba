-- `editions::questions::command_earns` meets its contract. Assumes nothing.
use Rattle.editions.specs.Conversion.{of_command}
use Rattle.editions.proofs.Asking.{no_token}
use Rattle.editions.proofs.questions.command_earns.Goals as goal

pub returns-in-Token : goal.returns-in-Token
unfolding of_command
returns-in-Token g c = rw c.in-Token.is c.token_earns.ensures

pub returns-in_default : goal.returns-in_default
returns-in_default g c = no_token _ c.args.event.now c.in_default.not-Token
