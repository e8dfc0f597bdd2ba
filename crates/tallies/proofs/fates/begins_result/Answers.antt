-- `tallies::fates::begins_result` meets its contract. Assumes nothing.
use mathlib.Core.Path.{sym, ◌∙◌}
use Rattle.laws.proofs.Scans.{and_first, and_second}
use Rattle.tallies.proofs.Fating.{result_of_none, result_of_one, result_of_two}
use Rattle.tallies.proofs.fates.begins_result.Goals as goal

pub returns-in_default : goal.returns-in_default
returns-in_default c = sym (result_of_none (sym c.tokens-tokens.ensures ∙ c.in_default.ensures.steps.0))

pub returns-in_default-next : goal.returns-in_default-next
returns-in_default-next c = sym (result_of_one (sym c.tokens-tokens.ensures ∙ c.in-Some.ensures.steps) c.in_default-next.ensures.steps.0)

pub returns-then-is_result_name : goal.returns-then-is_result_name
returns-then-is_result_name c =
    and_second c.is_result_name.ensures c.if-is_result_name.true c.starts.ensures
    ∙ sym (result_of_two (sym c.tokens-tokens.ensures ∙ c.in-Some.ensures.steps) c.in-Some-next.ensures.steps)

pub returns-else-is_result_name : goal.returns-else-is_result_name
returns-else-is_result_name c =
    and_first _ c.is_result_name.ensures c.if-is_result_name.false
    ∙ sym (result_of_two (sym c.tokens-tokens.ensures ∙ c.in-Some.ensures.steps) c.in-Some-next.ensures.steps)
