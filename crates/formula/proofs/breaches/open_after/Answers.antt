-- `formula::breaches::open_after` meets its contract. Assumes nothing.
use Rattle.std.proofs.Common.{arith, ap, length}
use Rattle.formula.proofs.Testing.{text_below}
use Rattle.formula.proofs.breaches.open_after.Goals as goal

pub open_in-requires : goal.open_in-requires
open_in-requires c =
    let t = c.args.texts.now in
    omega (arith, c.requires.1, ap length c.text.ensures, text_below t.tape.now t.area.now c.args.w)

pub returns-then-kind-eq-PUNCT-clause-few : goal.returns-then-kind-eq-PUNCT-clause-few
returns-then-kind-eq-PUNCT-clause-few c = λ m e.
    (let t = c.args.texts.now in
    omega (arith, c.open_in.ensures.few m e, ap length c.text.ensures, text_below t.tape.now t.area.now c.args.w))
