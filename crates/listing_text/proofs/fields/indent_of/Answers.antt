-- `listing_text::fields::indent_of` meets its contract. Assumes nothing.
use mathlib.Core.Path.{ap, ◌∙◌}
use Rattle.reference.specs.Options.{option_of}
use Rattle.listing_text.proofs.Fielding.{indent_unread, indent-byte}
use Rattle.listing_text.proofs.fields.indent_of.Goals as goal

pub returns-in_err-number_in : goal.returns-in_err-number_in
returns-in_err-number_in c = rw c.from_residual.ensures (indent_unread _ c.in_err-number_in.ensures)

pub returns : goal.returns
returns c = ap option_of c.ok.ensures.value ∙ indent-byte _ c.try_from.result c.in_ok-number_in.ensures c.try_from.ensures
