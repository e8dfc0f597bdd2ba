-- `words::numerals::unsigned_in` meets its contract. Assumes nothing.
use Rattle.std.proofs.Common.{refl, sym, ap, ◌∙◌, arith}
use Rattle.reference.specs.Options.{option_of}
use Rattle.words.proofs.Digits.{stop_64, more_64, over_64, end_64, unsigned-empty, unsigned_from}
use Rattle.words.proofs.numerals.unsigned_in.Goals as goal

pub returns-then-is_empty : goal.returns-then-is_empty
returns-then-is_empty c = unsigned-empty _ _ c.is_empty.ensures c.if-is_empty.true

pub returns-in_err-d : goal.returns-in_err-d
returns-in_err-d c =
    let l = c.loop-b in
    ap option_of c.from_residual.ensures ∙ stop_64 c.args.base l.v c.args.word.now l.b-index c.loop-b-test.true c.in_err-d.ensures
    ∙ sym (unsigned_from _ _ c.is_empty.ensures c.if-is_empty.false ∙ l.invariant.1)

pub returns-in_err-checked_mul : goal.returns-in_err-checked_mul
returns-in_err-checked_mul c =
    let l = c.loop-b in
    ap option_of c.from_residual-in_err-checked_mul.ensures
    ∙ over_64 c.args.base l.v c.args.word.now l.b-index c.loop-b-test.true c.in_ok-d.ensures (omega (arith, c.in_err-checked_mul.ensures))
    ∙ sym (unsigned_from _ _ c.is_empty.ensures c.if-is_empty.false ∙ l.invariant.1)

pub returns-in_err-v : goal.returns-in_err-v
returns-in_err-v c =
    let l = c.loop-b in
    let m = c.in_ok-checked_mul.ensures in
    ap option_of c.from_residual-in_err-v.ensures
    ∙ over_64 c.args.base l.v c.args.word.now l.b-index c.loop-b-test.true c.in_ok-d.ensures (omega (arith, m.1, c.in_err-v.ensures))
    ∙ sym (unsigned_from _ _ c.is_empty.ensures c.if-is_empty.false ∙ l.invariant.1)

pub loop-b-preserved : goal.loop-b-preserved
loop-b-preserved c =
    let l = c.loop-b in
    let m = c.in_ok-checked_mul.ensures in
    let n = c.in_ok-v.ensures in (
      omega (arith, m.1, n.0, n.1),
      l.invariant.1 ∙ more_64 c.args.base l.v c.args.word.now l.b-index c.loop-b-test.true c.in_ok-d.ensures ∙ rw (n.1, m.1) refl,
    )

pub returns : goal.returns
returns c =
    let l = c.loop-b in
    sym (unsigned_from _ _ c.is_empty.ensures c.if-is_empty.false ∙ l.invariant.1 ∙ end_64 c.args.base l.v c.args.word.now l.b-index c.loop-b-test.false l.invariant.0)
