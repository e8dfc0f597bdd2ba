-- `listing_text::forms::put_decimal` meets its contract. Assumes nothing.
use mathlib.Core.Path.{◌∙◌}
use Rattle.printing.proofs.Decimals.{decimal-spelt}
use Rattle.listing_text.proofs.Pages.{puts_as}
use Rattle.listing_text.proofs.forms.put_decimal.Goals as goal

pub returns : goal.returns
returns c = puts_as (c.decimal-k.ensures.digits ∙ decimal-spelt _ c.ranges.n.fits c.decimal-k.ensures.len) c.put.ensures
