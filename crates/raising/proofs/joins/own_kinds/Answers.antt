-- `raising::joins::own_kinds` meets its contract. Assumes nothing.
use mathlib.Core.Path.{refl}
use Rattle.ground.specs.Rules.{rules_of}
use Rattle.raising.specs.Noting.{fam_of, plan_of}
use Rattle.raising.specs.Halfway.{own_kinds}
use Rattle.raising.proofs.joins.own_kinds.Goals as goal

pub returns : goal.returns
unfolding own_kinds
returns c =
    let n = c.args.n.now in
    rw (
      c.given-odd.ensures,
      c.given-over.ensures,
      c.given-slot.ensures,
      c.is_odd.ensures (rules_of n.rules) (fam_of n) (plan_of n).expr,
      c.past_call.ensures (fam_of n) (plan_of n).expr refl,
      c.is_slot.ensures,
    ) refl
