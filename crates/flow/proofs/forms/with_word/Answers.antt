-- `flow::forms::with_word` meets its contract. Assumes nothing.
use borrow.Author.Rules.{rules}
use Prim.Native.Nat.{◌+◌}
use native.Mathlib.Omega.{arith}
use mathlib.Core.Path.{refl}
use Rattle.flow.proofs.Changes.{text_short}
use Rattle.flow.proofs.Spelled.{no_word, other_word, control_word, short_more}
use Rattle.flow.proofs.forms.with_word.Goals as goal

pub returns-then-kind-ne-KEYWORD-clause-is : goal.returns-then-kind-ne-KEYWORD-clause-is
returns-then-kind-ne-KEYWORD-clause-is c =
    let t = c.args.texts.now in
    λ more. rw (no_word t.tape.now t.area.now c.args.w c.kind.ensures c.if-kind-ne-KEYWORD.true) refl

pub returns-then-not-is_control_word-clause-is : goal.returns-then-not-is_control_word-clause-is
returns-then-not-is_control_word-clause-is c =
    let t = c.args.texts.now in
    λ more. rw (other_word t.tape.now t.area.now c.args.w c.kind.ensures c.if-kind-ne-KEYWORD.false c.text-s.ensures c.is_control_word.ensures (search rules)) refl

pub with_text-requires : goal.with_text-requires
with_text-requires c = (c.requires.0, text_short c.requires.1 c.text-s.ensures)

pub returns-clause-is : goal.returns-clause-is
returns-clause-is c =
    let t = c.args.texts.now in
    λ more. rw (control_word t.tape.now t.area.now c.args.w c.kind.ensures c.if-kind-ne-KEYWORD.false c.text-s.ensures c.is_control_word.ensures (search rules)) (c.with_text.ensures.is more)

pub returns-clause-few : goal.returns-clause-few
returns-clause-few c =
    let h = text_short c.requires.1 c.text-s.ensures in
    λ n b. short_more (n + 65535) (c.with_text.ensures.few n b) (omega arith)
