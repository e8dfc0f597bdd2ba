-- `flow::frames::with_token` meets its contract. Assumes nothing.
use Prim.Native.Nat.{◌+◌}
use native.Mathlib.Omega.{arith}
use Rattle.flow.proofs.Changes.{text_short}
use Rattle.flow.proofs.Framing.{punct_token, cast_token, other_token, below_more}
use Rattle.flow.proofs.frames.with_token.Goals as goal

pub with_text-requires : goal.with_text-requires
with_text-requires c = (c.requires.0, text_short c.requires.1 c.text.ensures)

pub returns-then-kind-eq-PUNCT-clause-is : goal.returns-then-kind-eq-PUNCT-clause-is
returns-then-kind-eq-PUNCT-clause-is c =
    let t = c.args.texts.now in
    λ more. rw (← punct_token t.tape.now t.area.now c.args.w c.kind.ensures c.if-kind-eq-PUNCT.true c.text.ensures) (c.with_text.ensures.is more)

pub returns-then-kind-eq-PUNCT-clause-few : goal.returns-then-kind-eq-PUNCT-clause-few
returns-then-kind-eq-PUNCT-clause-few c =
    let h = text_short c.requires.1 c.text.ensures in
    λ n b. below_more (n + 65535) (c.with_text.ensures.few n b) (omega arith)

pub returns-then-is_call_cast-clause-is : goal.returns-then-is_call_cast-clause-is
returns-then-is_call_cast-clause-is c =
    let t = c.args.texts.now in
    λ more. rw (cast_token t.tape.now t.area.now c.args.w c.kind.ensures c.if-kind-eq-PUNCT.false c.is_call_cast.ensures c.if-is_call_cast.true) (c.with_byte.ensures.is more)

pub returns-else-is_call_cast-clause-is : goal.returns-else-is_call_cast-clause-is
returns-else-is_call_cast-clause-is c =
    let t = c.args.texts.now in
    λ more. rw (other_token t.tape.now t.area.now c.args.w c.kind.ensures c.if-kind-eq-PUNCT.false c.is_call_cast.ensures c.if-is_call_cast.false) (c.with_byte-else-is_call_cast.ensures.is more)
