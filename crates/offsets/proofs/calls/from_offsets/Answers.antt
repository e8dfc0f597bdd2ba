-- `offsets::from_offsets` meets its contract: no call is refused wrongly, and every lent byte is told. Assumes nothing.
use lib.ListN.{length}
use mathlib.Core.Path.{◌≡◌, ap}
use borrow.Author.Rules.{rules}
use Rattle.std.specs.Prelude.{Ok, Err}
use Rattle.std.specs.Result.{MatchResult, IsErrAnd}
use Rattle.answers.specs.Refusals.{refusing}
use Rattle.offsets.proofs.Answering.{refused_call, from-small, from_early, fronted}
use Rattle.offsets.proofs.calls.from_offsets.Goals as goal

pub returns-then-out-lt-OUTPUT_BYTES : goal.returns-then-out-lt-OUTPUT_BYTES
returns-then-out-lt-OUTPUT_BYTES c = let a = c.args in
    rw c.at.ensures (refused_call a.out.now (from-small a.tape.now (length a.out.now) c.if-out-lt-OUTPUT_BYTES.true))

pub returns-in_err-map_err : goal.returns-in_err-map_err
returns-in_err-map_err c =
    let h : MatchResult c.asked.result (λ a. c.map_err.result ≡ Ok a) (λ r. IsErrAnd c.map_err.result (λ x. x ≡ record { reason = r; place = 0 })) = search rules in
    let k : c.from_residual.result ≡ Err c.in_err-map_err.field-0.0 = search rules in
    let a = c.args in
    rw k (refused_call a.out.now
    (from_early a.tape.now (length a.out.now) c.if-out-lt-OUTPUT_BYTES.false c.asked.result c.asked.ensures h _ c.in_err-map_err.was))

pub raise-requires : goal.raise-requires
raise-requires c =
    let d : c.asked.result ≡ Ok c.in_ok-map_err.field-0 = search rules in
    (fronted c.args.tape.now c.asked.ensures (ap refusing d), c.if-out-lt-OUTPUT_BYTES.false)
