-- `editions::writing::put_lowered` meets its contract. Assumes nothing.
use Rattle.editions.proofs.Copying.{other-command, same_command, same-room, same-put, number-ready, number_lowers}
use Rattle.editions.proofs.writing.put_lowered.Goals as goal
use Rattle.editions.proofs.writing.put_lowered.Goals.{in_default-via-in-Token+else-kind-eq-NUMBER, in_default-via-in_default}

pub put_number-requires : goal.put_number-requires
put_number-requires c = number-ready (rw c.in-Token.is at c.requires) c.if-kind-eq-NUMBER.true

pub put_command-requires : goal.put_command-requires
put_command-requires c =
    elim c.in_default.branch [
      | in_default-via-in-Token+else-kind-eq-NUMBER w ↦
          same-room c.requires (rw w.in-Token.is (other-command w.in-Token.kind w.in-Token.text w.if-kind-eq-NUMBER.false))
      | in_default-via-in_default w ↦ same-room c.requires (same_command c.args.event.now w.in_default.not-Token)
    ]

pub returns-in-Token : goal.returns-in-Token
returns-in-Token c = rw c.in-Token.is (number_lowers (rw c.in-Token.is at c.requires) c.if-kind-eq-NUMBER.true c.put_number.ensures)

pub returns-in_default : goal.returns-in_default
returns-in_default c =
    elim c.in_default.branch [
      | in_default-via-in-Token+else-kind-eq-NUMBER w ↦
          same-put c.requires (rw w.in-Token.is (other-command w.in-Token.kind w.in-Token.text w.if-kind-eq-NUMBER.false)) c.put_command.ensures
      | in_default-via-in_default w ↦ same-put c.requires (same_command c.args.event.now w.in_default.not-Token) c.put_command.ensures
    ]
