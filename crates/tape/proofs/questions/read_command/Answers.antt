-- `tape::questions::read_command` meets its contract. Assumes nothing.
use native.Mathlib.Omega.{arith}
use Rattle.std.proofs.lemmas.Result.{err_from_is_err_and}
use Rattle.tape.proofs.commands.Standing.{stands_by, stands-inside}
use Rattle.tape.proofs.questions.Asking.{looked_inside, stops, refuses, all_yes, passes, within-counts, promised}
use Rattle.tape.proofs.questions.read_command.Goals as goal

pub returns-in_err-command-clause-result_value : goal.returns-in_err-command-clause-result_value
returns-in_err-command-clause-result_value g c = let p = err_from_is_err_and c.from_residual.result c.from_residual.ensures.1 in
    rw (p.1, p.2) (stops _ _ _ _ c.in_err-command.ensures)

pub returns-in_err-command-clause-from_here : goal.returns-in_err-command-clause-from_here
returns-in_err-command-clause-from_here g c = let p = err_from_is_err_and c.from_residual.result c.from_residual.ensures.1 in
    rw (p.1, p.2) ((promised _ _ _ _ (stops _ _ _ _ c.in_err-command.ensures)).1)

pub ask-requires : goal.ask-requires
ask-requires g c = looked_inside (stands_by _ c.in_ok-command.ensures)

pub returns-in_err-ask-clause-result_value : goal.returns-in_err-ask-clause-result_value
returns-in_err-ask-clause-result_value g c = let p = err_from_is_err_and c.from_residual-in_err-ask.result c.from_residual-in_err-ask.ensures.1 in
    rw (p.1, p.2) (refuses _ _ _ _ (stands_by _ c.in_ok-command.ensures) c.in_err-ask.ensures)

pub returns-in_err-ask-clause-from_here : goal.returns-in_err-ask-clause-from_here
returns-in_err-ask-clause-from_here g c = let p = err_from_is_err_and c.from_residual-in_err-ask.result c.from_residual-in_err-ask.ensures.1 in
    rw (p.1, p.2) ((promised _ _ _ _ (refuses _ _ _ _ (stands_by _ c.in_ok-command.ensures) c.in_err-ask.ensures)).1)

pub size_of-requires : goal.size_of-requires
size_of-requires g c = omega (arith, stands-inside (stands_by _ c.in_ok-command.ensures))

pub overflow_add-result : goal.overflow_add-result
overflow_add-result g c = omega (arith, stands-inside (stands_by _ c.in_ok-command.ensures), c.size_of.ensures)

pub count_in-requires : goal.count_in-requires
count_in-requires g c = let yes = all_yes _ _ _ c.in_ok-command.command c.in_ok-ask.ensures in
    within-counts _ _ _ c.args.totals (stands_by _ c.in_ok-command.ensures) yes.1.1.0 yes.1.1.1.0

pub returns-clause-result_value : goal.returns-clause-result_value
returns-clause-result_value g c = rw (c.size_of.ensures, c.count_in.ensures) (passes _ _ _ _ (stands_by _ c.in_ok-command.ensures) c.in_ok-ask.ensures)

pub returns-clause-from_here : goal.returns-clause-from_here
returns-clause-from_here g c = rw (c.size_of.ensures, c.count_in.ensures) ((promised _ _ _ _ (passes _ _ _ _ (stands_by _ c.in_ok-command.ensures) c.in_ok-ask.ensures)).1)
