-- `tables::memo::remember` meets its contract. Assumes nothing.
use native.Mathlib.Omega.{arith}
use mathlib.Core.Path.{sym, ap, ◌∙◌}
use Rattle.reference.specs.Options.{option_of}
use Rattle.reference.proofs.LittleEndian.{Bytes}
use Rattle.tables.proofs.memo.Remembering.{above_start, remembers}
use Rattle.tables.proofs.memo.remember.Goals as goal

pub overflow_sub-words : goal.overflow_sub-words
overflow_sub-words c = rw c.moved_by.ensures (above_start c.args.tape.now c.args.at c.args.w c.requires.2)

pub returns-in-Some : goal.returns-in-Some
returns-in-Some c =
    let b : Bytes c.args.tape.now = λ i. omega (arith, c.type_inv.tape i) in
    let e = ap option_of (sym c.in-Some.is) ∙ c.key_at.ensures in
    rw c.moved_by.ensures (remembers c.args.tape.now c.args.at c.args.w c.requires.2 b e c.requires.0 c.place_of-place.ensures)
