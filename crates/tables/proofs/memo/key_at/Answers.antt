-- `tables::memo::key_at` meets its contract. Assumes nothing.
use native.Mathlib.Omega.{arith}
use mathlib.Core.Path.{ap, ◌∙◌}
use Rattle.reference.specs.Options.{option_of}
use Rattle.reference.proofs.LittleEndian.{Bytes}
use Rattle.tables.proofs.memo.Keys.{key-short, key-long, key-found}
use Rattle.tables.proofs.memo.key_at.Goals as goal

pub returns-then-tape-at : goal.returns-then-tape-at
returns-then-tape-at c = key-short c.args.tape.now c.args.at c.if-tape-at.true

pub returns-in_err-mask : goal.returns-in_err-mask
returns-in_err-mask c =
    let b : Bytes c.args.tape.now = λ i. omega (arith, c.type_inv.tape i) in
    ap option_of c.from_residual.ensures
    ∙ key-long c.args.tape.now c.args.at b c.if-tape-at.false c.number_at-v.ensures (rw c.in_err-mask.was at c.mask_of.ensures)

pub returns : goal.returns
returns c =
    let b : Bytes c.args.tape.now = λ i. omega (arith, c.type_inv.tape i) in
    key-found c.args.tape.now c.args.at b c.if-tape-at.false c.number_at-v.ensures c.in_ok-mask.mask (rw c.in_ok-mask.was at c.mask_of.ensures)
