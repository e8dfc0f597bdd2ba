-- `numbers::parse::hexadecimal` meets its contract. Assumes nothing.
use Rattle.std.proofs.Common.{ap, ◌∙◌}
use mathlib.Core.Option.{some}
use Rattle.reference.specs.Options.{option_of}
use Rattle.numbers.proofs.Signed.{read_back}
use Rattle.numbers.proofs.Parses.{same_text, no_text, read_16, no_16}
use Rattle.numbers.proofs.Parsing.{hexadecimal_read, hexadecimal-unread}
use Rattle.numbers.proofs.parse.hexadecimal.Goals as goal

pub returns-in_err-text : goal.returns-in_err-text
returns-in_err-text c =
    ap option_of c.from_residual.ensures ∙ hexadecimal-unread _ (no_16 c.args.s.now (no_text _ _ _ c.in_err-text.ensures.value c.from_utf8.ensures.cases))

pub returns-in_err-ok : goal.returns-in_err-ok
returns-in_err-ok c =
    let text = same_text _ _ _ c.in_ok-text.ensures.value c.from_utf8.ensures.cases in
    let r = read_16 c.args.s.now c.from_str_radix.result (rw text at c.from_str_radix.ensures.value) in
    ap option_of c.from_residual-in_err-ok.ensures ∙ hexadecimal-unread _ (ap option_of c.in_err-ok.ensures.value ∙ r)

pub returns : goal.returns
returns c =
    let text = same_text _ _ _ c.in_ok-text.ensures.value c.from_utf8.ensures.cases in
    let r = read_16 c.args.s.now c.from_str_radix.result (rw text at c.from_str_radix.ensures.value) in
    ap some (read_back _ c.signed.type_inv ∙ c.signed.ensures) ∙ hexadecimal_read _ (ap option_of c.in_ok-ok.ensures.value ∙ r)
