-- `clean::entry::clean` meets its contract: no call is refused wrongly, and every lent byte is told. Assumes nothing.
use mathlib.Core.Path.{◌≡◌}
use borrow.Author.Rules.{rules}
use Rattle.std.specs.Prelude.{Ok, Err}
use Rattle.std.specs.Result.{MatchResult, IsErrAnd}
use Rattle.ground.specs.Rules.{rules_of}
use Rattle.tape.proofs.questions.Reading.{refused_by}
use Rattle.clean.proofs.Replying.{refused_early, refused_on_tape, cleanable_now, refused_now, finished-now}
use Rattle.clean.proofs.entry.clean.Goals as goal

pub returns-in_err-map_err : goal.returns-in_err-map_err
returns-in_err-map_err c =
    let h : MatchResult c.asked.result (λ a. c.map_err.result ≡ Ok a) (λ r. IsErrAnd c.map_err.result (λ x. x ≡ record { reason = r; place = 0 })) = search rules in
    let k : c.from_residual.result ≡ Err c.in_err-map_err.field-0.0 = search rules in
    let a = c.args in
    let p = refused_early (rules_of a.rules) a.tape.now a.work_a.now a.work_b.now a.out.now c.asked.result c.asked.ensures h _ c.in_err-map_err.was in
    rw k (record { cleans = p.0; result_value = p.1 })

pub returns-in_err-loaded : goal.returns-in_err-loaded
returns-in_err-loaded c =
    let k : c.from_residual-in_err-loaded.result ≡ Err c.in_err-loaded.field-0.0 = search rules in
    let d : c.asked.result ≡ Ok c.in_ok-map_err.field-0 = search rules in
    let a = c.args in
    let p = refused_on_tape (rules_of a.rules) a.tape.now a.work_a.now a.work_b.now a.out.now c.asked.ensures d _ (refused_by a.tape.now c.in_err-loaded.ensures.asked) in
    rw k (record { cleans = p.0; result_value = p.1 })

pub outside_profile-requires : goal.outside_profile-requires
outside_profile-requires c = c.in_ok-loaded.ensures.loaded.0

pub finish-requires : goal.finish-requires
finish-requires c =
    let d : c.asked.result ≡ Ok c.in_ok-map_err.field-0 = search rules in
    let a = c.args in
    cleanable_now a.tape.now c.load.result c.load.ensures.asked _ c.in_ok-loaded.was (rules_of a.rules) a.work_a.now a.work_b.now a.out.now c.asked.ensures d
    c.in_ok-loaded.ensures.loaded

pub returns-in-Some : goal.returns-in-Some
returns-in-Some c =
    let d : c.asked.result ≡ Ok c.in_ok-map_err.field-0 = search rules in
    let a = c.args in
    let p = refused_now a.tape.now c.load.result c.load.ensures.asked _ c.in_ok-loaded.was (rules_of a.rules) a.work_a.now a.work_b.now a.out.now
    c.asked.ensures d c.outside_profile.result c.outside_profile.ensures _ c.in-Some.is in
    rw c.at.ensures (record { cleans = p.0; result_value = p.1 })

pub returns-in-None : goal.returns-in-None
returns-in-None c =
    let d : c.asked.result ≡ Ok c.in_ok-map_err.field-0 = search rules in
    let a = c.args in
    let p =
    finished-now a.tape.now c.load.result c.load.ensures.asked _ c.in_ok-loaded.was (rules_of a.rules) a.work_a.now a.work_b.now a.out.now
    c.asked.ensures d c.outside_profile.result c.outside_profile.ensures c.in-None.is _ _ _ _ c.finish.ensures in
    record { cleans = p.0; result_value = p.1 }
