-- `words::numerals::negative_in` meets its contract. Assumes nothing.
use Rattle.std.proofs.Common.{ap, ◌∙◌}
use Rattle.reference.specs.Options.{option_of}
use Rattle.words.proofs.Digits.{negative_some, negative_none}
use Rattle.words.proofs.numerals.negative_in.Goals as goal

pub returns-in_err-magnitude_in : goal.returns-in_err-magnitude_in
returns-in_err-magnitude_in c = ap option_of c.from_residual.ensures ∙ negative_none _ c.in_err-magnitude_in.ensures

pub returns : goal.returns
returns c = negative_some _ c.in_ok-magnitude_in.ensures c.negated.ensures
