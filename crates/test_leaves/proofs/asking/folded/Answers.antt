-- `test_leaves::asking::folded` meets its contract. Assumes nothing.
use Rattle.std.proofs.Common.{sym, ap, ◌∙◌, rules}
use Rattle.reference.specs.Options.{option_of}
use Rattle.numbers.proofs.Signed.{read_back}
use Rattle.test_leaves.proofs.Answering.{combined-first, combined-second, combined-minus, combined-plus}
use Rattle.test_leaves.proofs.asking.folded.Goals as goal

pub returns-in_err-x : goal.returns-in_err-x
returns-in_err-x c = ap option_of c.from_residual.ensures ∙ combined-first _ _ _ (sym c.in_err-x.ensures)

pub returns-in_err-y : goal.returns-in_err-y
returns-in_err-y c = ap option_of c.from_residual-in_err-y.ensures ∙ combined-second _ _ _ (sym c.in_ok-x.ensures) (sym c.in_err-y.ensures)

pub returns-then-minus : goal.returns-then-minus
returns-then-minus c =
    combined-minus _ _ _ (sym c.in_ok-x.ensures) (sym c.in_ok-y.ensures)
    (read_back c.in_ok-x.x (search rules)) (read_back c.in_ok-y.y (search rules)) (read_back _ c.wrapping_sub.type_inv) c.if-minus.true c.wrapping_sub.ensures

pub returns-else-minus : goal.returns-else-minus
returns-else-minus c =
    combined-plus _ _ _ (sym c.in_ok-x.ensures) (sym c.in_ok-y.ensures)
    (read_back c.in_ok-x.x (search rules)) (read_back c.in_ok-y.y (search rules)) (read_back _ c.wrapping_add.type_inv) c.if-minus.false c.wrapping_add.ensures
