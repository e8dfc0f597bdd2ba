-- `plan::slots::gather_slot` meets its contract. Assumes nothing.
use Rattle.std.proofs.Common.{refl, ap, ◌∙◌, length}
use Rattle.lines.proofs.words.Tokens.{text_length}
use Rattle.plan.proofs.Noting.{noted-plain, noted_other, noted-slot}
use Rattle.plan.proofs.slots.gather_slot.Goals as goal
use Rattle.plan.proofs.slots.gather_slot.Goals.{else-has-via-then-has+else-has-2, else-has-via-else-has}

pub push-requires : goal.push-requires
push-requires c =
    let p = c.requires in
    let e = ap length c.text.ensures ∙ text_length p.1 in
    (p.2, rw e p.3)

pub returns-then-has-2-clause-noted : goal.returns-then-has-2-clause-noted
returns-then-has-2-clause-noted c =
    let a = c.args in
    noted-slot a.texts.now.tape.now a.texts.now.area.now a.before a.w refl c.has.ensures c.if-has.true refl c.has-then-has.ensures c.if-has-2.true
    c.requires.1 (rw c.text.ensures at c.push.ensures.noted)

pub returns-else-has-clause-noted : goal.returns-else-has-clause-noted
returns-else-has-clause-noted c =
    let a = c.args in
    let tape = a.texts.now.tape.now in
    let area = a.texts.now.area.now in
    elim c.else-has.branch [
      | else-has-via-then-has+else-has-2 w ↦
          noted_other tape area a.before a.w refl c.has.ensures w.if-has.true refl w.has-then-has.ensures c.requires.2 w.if-has-2.false
      | else-has-via-else-has w ↦ noted-plain tape area a.before a.w refl c.has.ensures c.requires.2 w.if-has.false
    ]
