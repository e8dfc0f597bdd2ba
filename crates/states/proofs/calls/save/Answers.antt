-- `states::save` meets its contract. Assumes nothing.
use Rattle.states.proofs.Passing.{saving_ready, saves_replaced, saves_taken, save_refused, save-done}
use Rattle.states.specs.Calls.{saved_in}
use Rattle.states.specs.Answers.{spot_of, spot}
use Rattle.reference.specs.Questions.{Passed}
use Rattle.std.proofs.lemmas.Result.{err_from_is_err_and}
use mathlib.Core.Path.{sym, ap, ◌∙◌}
use borrow.Author.Rules.{rules}
use Rattle.states.proofs.calls.save.Goals as goal

pub returns-in_err-i : goal.returns-in_err-i
returns-in_err-i c = let p = err_from_is_err_and c.from_residual.result c.from_residual.ensures.1 in
    rw (p.1, p.2)
    (save_refused c.args.store.now c.args.name.now c.args.tape.now (sym (ap spot_of c.in_err-i.was) ∙ c.save_place.ensures))

pub replace-requires : goal.replace-requires
replace-requires c = let e = sym (ap (λ x. Passed (spot x)) c.in-Replaced.is) ∙ sym (ap spot_of c.in_ok-i.was) ∙ c.save_place.ensures in
    saving_ready c.args.store.now c.args.name.now c.args.tape.now
    (saves_replaced c.args.store.now c.args.name.now c.args.tape.now (sym e)).0

pub take-requires : goal.take-requires
take-requires c = let e = sym (ap (λ x. Passed (spot x)) c.in-Taken.is) ∙ sym (ap spot_of c.in_ok-i.was) ∙ c.save_place.ensures in
    let r = saving_ready c.args.store.now c.args.name.now c.args.tape.now
    (saves_taken c.args.store.now c.args.name.now c.args.tape.now (sym e)).0 in
    (r.0, search rules, r.1)

pub returns-in-Replaced : goal.returns-in-Replaced
unfolding saved_in
returns-in-Replaced c = let e = sym (ap (λ x. Passed (spot x)) c.in-Replaced.is) ∙ sym (ap spot_of c.in_ok-i.was) ∙ c.save_place.ensures in
    save-done c.args.store.now c.args.name.now c.args.tape.now e c.replace.ensures

pub returns-in-Taken : goal.returns-in-Taken
unfolding saved_in
returns-in-Taken c = let e = sym (ap (λ x. Passed (spot x)) c.in-Taken.is) ∙ sym (ap spot_of c.in_ok-i.was) ∙ c.save_place.ensures in
    save-done c.args.store.now c.args.name.now c.args.tape.now e c.take.ensures
