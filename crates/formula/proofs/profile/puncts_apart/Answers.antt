-- `formula::profile::puncts_apart` meets its contract. Assumes nothing.
use Rattle.std.proofs.Common.{rules, not, ap, ◌∙◌}
use Rattle.laws.proofs.Std.{any_by, tests_of_std}
use Rattle.lines.proofs.words.Chains.{YieldsList-from_pairs}
use Rattle.formula.proofs.Worthy.{both_puncts, apart_pairs}
use Rattle.formula.proofs.profile.puncts_apart.Goals as goal

pub returns : goal.returns
returns c = λ tape area.
    (let ws = c.args.line.now in
    ap not (any_by both_puncts _ _ c.any.ensures.ran (YieldsList-from_pairs ws (cc) (cc)) (λ x b q k. search (rules, tests_of_std))) ∙ apart_pairs tape area ws)
