-- `listing_text::fields::line_of` meets its contract. Assumes nothing.
use Rattle.listing_text.proofs.Fielding.{no_address, no_indent, line_known}
use Rattle.listing_text.proofs.fields.line_of.Goals as goal

pub returns-in_err-address : goal.returns-in_err-address
returns-in_err-address c = rw c.from_residual.ensures (no_address _ _ c.in_err-address.ensures)

pub returns-in_err-indent : goal.returns-in_err-indent
returns-in_err-indent c = rw c.from_residual-in_err-indent.ensures (no_indent _ _ c.in_ok-address.ensures c.in_err-indent.ensures)

pub returns : goal.returns
returns c = line_known _ _ c.in_ok-address.ensures c.in_ok-indent.ensures
