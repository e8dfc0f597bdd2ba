-- `listing_text::fields::tag_of` meets its contract. Assumes nothing.
use mathlib.Core.Path.{ap, ◌∙◌}
use Rattle.std.proofs.Common.{arith}
use Rattle.reference.specs.Options.{option_of}
use Rattle.listing_text.proofs.Spelling.{tag_none}
use Rattle.listing_text.proofs.Fielding.{tag-byte}
use Rattle.listing_text.proofs.fields.tag_of.Goals as goal

pub returns-in_err-kind_of : goal.returns-in_err-kind_of
returns-in_err-kind_of c = ap option_of c.from_residual.ensures ∙ tag_none _ c.in_err-kind_of.ensures.is

pub overflow_add-branch : goal.overflow_add-branch
overflow_add-branch c = omega (arith, c.in_ok-kind_of.ensures.below)

pub returns : goal.returns
returns c = let k = c.in_ok-kind_of.ensures in ap option_of c.ok.ensures.value ∙ tag-byte _ c.try_from.result k.is k.below c.try_from.ensures
