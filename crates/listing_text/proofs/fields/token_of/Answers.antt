-- `listing_text::fields::token_of` meets its contract. Assumes nothing.
use Rattle.listing_text.proofs.Fielding.{token_unknown, token-long, token-right}
use Rattle.listing_text.proofs.fields.token_of.Goals as goal

pub returns-in_err-tag : goal.returns-in_err-tag
returns-in_err-tag c = rw c.from_residual.ensures (token_unknown _ _ c.in_err-tag.ensures)

pub returns-then-text-gt65535 : goal.returns-then-text-gt65535
returns-then-text-gt65535 c = token-long _ _ c.in_ok-tag.ensures c.if-text-gt65535.true

pub returns : goal.returns
returns c = token-right _ _ c.in_ok-tag.ensures c.if-text-gt65535.false
