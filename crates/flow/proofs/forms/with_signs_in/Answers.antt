-- `flow::forms::with_signs_in` meets its contract. Assumes nothing.
use Prim.Native.Nat.{◌+◌}
use native.Mathlib.Omega.{arith}
use mathlib.Core.Path.{refl}
use Rattle.flow.proofs.Changes.{text_short}
use Rattle.flow.proofs.Spelled.{no_signs, punct_signs, short_more}
use Rattle.flow.proofs.forms.with_signs_in.Goals as goal

pub returns-then-kind-ne-PUNCT-clause-is : goal.returns-then-kind-ne-PUNCT-clause-is
returns-then-kind-ne-PUNCT-clause-is c =
    let t = c.args.texts.now in
    λ more. rw (no_signs t.tape.now t.area.now c.args.w c.kind.ensures c.if-kind-ne-PUNCT.true) refl

pub with_signs_of-requires : goal.with_signs_of-requires
with_signs_of-requires c = (c.requires.0, text_short c.requires.1 c.text.ensures)

pub returns-clause-is : goal.returns-clause-is
returns-clause-is c =
    let t = c.args.texts.now in
    λ more. rw (punct_signs t.tape.now t.area.now c.args.w c.kind.ensures c.if-kind-ne-PUNCT.false c.text.ensures) (c.with_signs_of.ensures.is more)

pub returns-clause-few : goal.returns-clause-few
returns-clause-few c =
    let h = text_short c.requires.1 c.text.ensures in
    λ n b. short_more (n + 65535) (c.with_signs_of.ensures.few n b) (omega arith)
