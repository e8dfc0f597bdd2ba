-- `numbers::parse::decimal` meets its contract. Assumes nothing.
use Rattle.std.proofs.Common.{ap, ◌∙◌}
use Rattle.reference.specs.Options.{option_of}
use Rattle.numbers.proofs.Parses.{same_text, no_text, read_10, no_10}
use Rattle.numbers.proofs.parse.decimal.Goals as goal

pub returns-in_err-text : goal.returns-in_err-text
returns-in_err-text c = ap option_of c.from_residual.ensures ∙ no_10 c.args.s.now (no_text _ _ _ c.in_err-text.ensures.value c.from_utf8.ensures.cases)

pub returns : goal.returns
returns c =
    let text = same_text _ _ _ c.in_ok-text.ensures.value c.from_utf8.ensures.cases in
    ap option_of c.ok-2.ensures.value ∙ read_10 c.args.s.now c.from_str_radix.result (rw text at c.from_str_radix.ensures.value)
