-- `numbers::constant::parse_2024` meets its contract. Assumes nothing.
use Rattle.std.proofs.Common.{ℤ, neg_ℤ, ap, ◌∙◌, rules}
use mathlib.Core.Option.{some}
use Rattle.reference.specs.Options.{option_of}
use Rattle.reference.specs.Numbers.{wrap}
use Rattle.reference.specs.Text.{bytes}
use Rattle.laws.proofs.Std.{prefix-std}
use Rattle.numbers.proofs.Signed.{read_back}
use Rattle.numbers.proofs.Constants.{parse_plain, parse_read, parse_unread}
use Rattle.numbers.proofs.constant.parse_2024.Goals as goal

pub returns-in_err-constant-in-Some : goal.returns-in_err-constant-in-Some
returns-in_err-constant-in-Some c =
    let e = c.in-Some.ensures.cases in
    ap option_of c.from_residual.ensures ∙ parse_unread _ (prefix-std c.args.s.now (bytes "-")) e.0 e.1 c.in_err-constant-in-Some.ensures

pub returns-in_ok-constant-in-Some : goal.returns-in_ok-constant-in-Some
returns-in_ok-constant-in-Some c =
    let e = c.in-Some.ensures.cases in
    ap some (read_back _ c.wrapping_neg.type_inv ∙ c.wrapping_neg.ensures)
    ∙ ap (λ (z : ℤ). some (wrap (neg_ℤ z))) (read_back c.in_ok-constant-in-Some.field-0 (search rules))
    ∙ parse_read _ (prefix-std c.args.s.now (bytes "-")) e.0 e.1 c.in_ok-constant-in-Some.ensures

pub returns-in-None : goal.returns-in-None
returns-in-None c = c.constant-in-None.ensures ∙ parse_plain _ (prefix-std c.args.s.now (bytes "-")) c.in-None.ensures.cases
