-- `tables::memo::recall` meets its contract. Assumes nothing.
use native.Mathlib.Omega.{arith}
use mathlib.Core.Path.{sym, ap, ◌∙◌}
use Rattle.reference.specs.Options.{option_of}
use Rattle.reference.proofs.LittleEndian.{Bytes}
use Rattle.tables.proofs.memo.Remembering.{recalled, remembered, room}
use Rattle.tables.proofs.memo.recall.Goals as goal

pub overflow_add-result : goal.overflow_add-result
overflow_add-result c =
    let b : Bytes c.args.tape.now = λ i. omega (arith, c.type_inv.tape i) in
    let e = ap option_of (sym c.in_ok-key.was) ∙ c.key_at.ensures in
    let r = remembered c.args.tape.now c.args.at b c.requires.1 e c.requires.0 c.place_of-place.ensures c.if-keys-place.false in
    let f = room c.args.tape.now c.args.at b c.requires.1 e r (omega (arith, c.type_inv.words)) in
    omega (arith, f, c.moved_by.ensures)

pub returns : goal.returns
returns c =
    let b : Bytes c.args.tape.now = λ i. omega (arith, c.type_inv.tape i) in
    let e = ap option_of (sym c.in_ok-key.was) ∙ c.key_at.ensures in
    let r = remembered c.args.tape.now c.args.at b c.requires.1 e c.requires.0 c.place_of-place.ensures c.if-keys-place.false in
    rw c.moved_by.ensures (recalled c.args.tape.now c.args.at b c.requires.1 e r)
