-- `listing_text::fields::address_of` meets its contract. Assumes nothing.
use Rattle.listing_text.proofs.Fielding.{address_missing, address_is, address-wrong}
use Rattle.listing_text.proofs.fields.address_of.Goals as goal

pub returns-then-same : goal.returns-then-same
returns-then-same c = address_missing _ c.same.ensures c.if-same.true

pub returns-in_err-number_in : goal.returns-in_err-number_in
returns-in_err-number_in c = rw c.from_residual.ensures (address-wrong _ c.same.ensures c.if-same.false c.in_err-number_in.ensures)

pub returns : goal.returns
returns c = address_is _ c.same.ensures c.if-same.false c.in_ok-number_in.ensures
