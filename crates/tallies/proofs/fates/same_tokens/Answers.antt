-- `tallies::fates::same_tokens` meets its contract. Assumes nothing.
use mathlib.Core.Path.{sym, ◌∙◌}
use Rattle.laws.proofs.Scans.{and_true, and_false}
use Rattle.tallies.proofs.Fating.{none_shown, none_more, one_alone, one_each}
use Rattle.tallies.specs.Lines.{token_shown, tokens_left}
use Rattle.tallies.proofs.fates.same_tokens.Goals as goal

pub returns-in_default : goal.returns-in_default
returns-in_default c = sym (one_alone c.in-Some.ensures.steps c.in_default.ensures.steps.0) ∙ c.loop-t.invariant

pub returns-then-not-same_token : goal.returns-then-not-same_token
returns-then-not-same_token c = sym (one_each c.in-Some.ensures.steps c.in-Some-next.ensures.steps ∙ and_false _ (sym c.same_token.ensures ∙ c.if-not-same_token.true)) ∙ c.loop-t.invariant

pub loop-t-preserved : goal.loop-t-preserved
loop-t-preserved c = sym (one_each c.in-Some.ensures.steps c.in-Some-next.ensures.steps ∙ and_true _ (sym c.same_token.ensures ∙ c.if-not-same_token.false)) ∙ c.loop-t.invariant

pub returns : goal.returns
returns c =
    none_shown token_shown (tokens_left c.loop-t.others) (tokens_left c.next-2.new.self) c.next-2.result c.is_none.result c.next-2.ensures.steps c.is_none.ensures
    ∙ sym (none_more (tokens_left c.loop-t.others) c.in-None.ensures.steps.0) ∙ c.loop-t.invariant
