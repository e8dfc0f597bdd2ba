-- `sources::calls::flags_of` meets its contract. Assumes nothing.
use native.Mathlib.Omega.{arith}
use Rattle.ground.specs.Rules.{rules_of}
use Rattle.sources.proofs.Answering.{flags_refused, flags_fit, flags-written}
use mathlib.Core.Path.{sym, ap, ◌∙◌}
use Rattle.std.proofs.lemmas.Result.{err_from_is_err_and}
use Rattle.clean.specs.Replies.{answer_of}
use Rattle.sources.proofs.calls.flags_of.Goals as goal

pub walk-requires : goal.walk-requires
walk-requires c =
    let a = c.args in
    flags_fit (rules_of a.rules) a.tape.now a.work_a.now a.work_b.now a.out.now a.flags.now c.clean.ensures.cleans.leaves
    (λ i. omega (arith, c.type_inv.tape i)) (sym (ap answer_of c.in_ok-clean.was) ∙ c.clean.ensures.result_value) c.requires.1

pub returns-in_err-clean : goal.returns-in_err-clean
returns-in_err-clean c = let a = c.args in
    let p = err_from_is_err_and c.from_residual.result c.from_residual.ensures.1 in
    rw (p.1, p.2)
    (flags_refused (rules_of a.rules) a.tape.now a.work_a.now a.work_b.now a.out.now a.flags.now c.clean.ensures.cleans.leaves
    (sym (ap answer_of c.in_err-clean.was) ∙ c.clean.ensures.result_value))

pub returns : goal.returns
returns c =
    let a = c.args in
    flags-written (rules_of a.rules) a.tape.now a.work_a.now a.work_b.now a.out.now a.flags.now c.clean.ensures.cleans.leaves
    (λ i. omega (arith, c.type_inv.tape i)) (sym (ap answer_of c.in_ok-clean.was) ∙ c.clean.ensures.result_value) c.walk.ensures
