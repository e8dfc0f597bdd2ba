-- `editions::questions::token_earns` meets its contract. Assumes nothing.
use Rattle.editions.proofs.Asking.{up-other, up-symbol, down-other, down_number}
use Rattle.editions.specs.contracts.questions.token_earns as code
use denote.Param.{number}
use mathlib.Core.Path.{◌≡◌, ◌∙◌}
use mathlib.Core.Bool.{true, false}
use borrow.Author.Tests.{ne_eqb}
use native.Mathlib.Omega.{arith}
use Rattle.editions.proofs.questions.token_earns.Goals as goal

pub returns-then-kind-eq-SYMBOL : goal.returns-then-kind-eq-SYMBOL
returns-then-kind-eq-SYMBOL g c = let t : code.UP-type (number g.row.UP) ≡ true = grind arith in
    up-symbol c.args.kind c.args.s.now t c.if-kind-eq-SYMBOL.true c.is_new_keyword.ensures

pub returns-else-kind-eq-SYMBOL : goal.returns-else-kind-eq-SYMBOL
returns-else-kind-eq-SYMBOL g c = let t : code.UP-type (number g.row.UP) ≡ true = grind arith in
    ne_eqb _ _ c.if-kind-eq-SYMBOL.false ∙ up-other c.args.kind c.args.s.now t c.if-kind-eq-SYMBOL.false

pub returns-then-kind-eq-NUMBER : goal.returns-then-kind-eq-NUMBER
returns-then-kind-eq-NUMBER g c = let t : code.UP-type (number g.row.UP) ≡ false = grind arith in
    down_number c.args.kind c.args.s.now t c.if-kind-eq-NUMBER.true c.has_no_older.ensures

pub returns-else-kind-eq-NUMBER : goal.returns-else-kind-eq-NUMBER
returns-else-kind-eq-NUMBER g c = let t : code.UP-type (number g.row.UP) ≡ false = grind arith in
    ne_eqb _ _ c.if-kind-eq-NUMBER.false ∙ down-other c.args.kind c.args.s.now t c.if-kind-eq-NUMBER.false
