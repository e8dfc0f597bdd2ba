-- `sources::came_into` meets its contract: no call is refused wrongly, and every lent byte is told. Assumes nothing.
use borrow.Author.Rules.{rules}
use mathlib.Core.Path.{◌≡◌, refl, ap}
use Rattle.std.specs.Prelude.{Ok, Err}
use Rattle.std.specs.Result.{MatchResult, IsErrAnd}
use Rattle.std.proofs.lemmas.Result.{err_from_is_err_and}
use Rattle.ground.specs.Rules.{rules_of}
use Rattle.answers.specs.Refusals.{refusing}
use Rattle.sources.specs.Calls.{lent_as}
use Rattle.sources.proofs.Came.{refused_early, refused_flags, refused_copy, part-accepted, told-into}
use Rattle.sources.proofs.calls.came_into.Goals as goal

pub returns-in_err-map_err : goal.returns-in_err-map_err
returns-in_err-map_err c =
    let h : MatchResult c.asked.result (λ a. c.map_err.result ≡ Ok a) (λ r. IsErrAnd c.map_err.result (λ x. x ≡ record { reason = r; place = 0 })) = search rules in
    let k : c.from_residual.result ≡ Err c.in_err-map_err.field-0.0 = search rules in
    let a = c.args in
    let lent = lent_as a.copy.now a.work_a.now a.work_b.now a.out.now a.flags.now in
    rw k (refused_early (rules_of a.rules) a.k a.tape.now lent c.asked.result c.asked.ensures h _ c.in_err-map_err.was)

pub returns-then-flags-lt256 : goal.returns-then-flags-lt256
returns-then-flags-lt256 c =
    let d : c.asked.result ≡ Ok c.in_ok-map_err.field-0 = search rules in
    let a = c.args in
    let lent = lent_as a.copy.now a.work_a.now a.work_b.now a.out.now a.flags.now in
    rw c.at.ensures (refused_flags (rules_of a.rules) a.k a.tape.now lent c.asked.ensures (ap refusing d) c.if-flags-lt256.true)

pub returns-in_err-n : goal.returns-in_err-n
returns-in_err-n c =
    let d : c.asked.result ≡ Ok c.in_ok-map_err.field-0 = search rules in
    let a = c.args in
    let lent = lent_as a.copy.now a.work_a.now a.work_b.now a.out.now a.flags.now in
    let p = err_from_is_err_and c.from_residual-in_err-n.result c.from_residual-in_err-n.ensures.1 in
    rw (p.1, p.2)
    (refused_copy (rules_of a.rules) a.k a.tape.now lent c.asked.ensures (ap refusing d) c.if-flags-lt256.false (rw c.in_err-n.was at c.copy_only.ensures))

pub flags_of-requires : goal.flags_of-requires
flags_of-requires c =
    let d : c.asked.result ≡ Ok c.in_ok-map_err.field-0 = search rules in
    let a = c.args in
    let lent = lent_as a.copy.now a.work_a.now a.work_b.now a.out.now a.flags.now in (
      part-accepted (rules_of a.rules) a.k a.tape.now lent c.asked.ensures (ap refusing d) c.if-flags-lt256.false
          (rw c.in_ok-n.was at c.copy_only.ensures) refl,
      c.if-flags-lt256.false,
    )

pub returns : goal.returns
returns c =
    let d : c.asked.result ≡ Ok c.in_ok-map_err.field-0 = search rules in
    let a = c.args in
    let lent = lent_as a.copy.now a.work_a.now a.work_b.now a.out.now a.flags.now in
    told-into (rules_of a.rules) a.k a.tape.now lent c.asked.ensures (ap refusing d) c.if-flags-lt256.false
    (rw c.in_ok-n.was at c.copy_only.ensures) refl c.flags_of.ensures
