-- `numbers::constant::sized` meets its contract. Assumes nothing.
use Rattle.std.proofs.Common.{ap, ◌∙◌}
use mathlib.Core.Option.{some}
use Rattle.reference.specs.Options.{option_of}
use Rattle.numbers.proofs.Signed.{read_back}
use Rattle.numbers.proofs.Constants.{sized-read, sized-unread}
use Rattle.numbers.proofs.constant.sized.Goals as goal

pub returns-in_err-row : goal.returns-in_err-row
returns-in_err-row c = ap option_of c.from_residual.ensures ∙ sized-unread _ _ _ c.in_err-row.ensures

pub returns : goal.returns
returns c =
    ap some (read_back _ c.signed.type_inv ∙ c.signed.ensures)
    ∙ sized-read _ _ _ c.in_ok-row.ensures
