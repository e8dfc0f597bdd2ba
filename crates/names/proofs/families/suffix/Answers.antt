-- `names::families::suffix` meets its contract. Assumes nothing.
use Rattle.std.proofs.Common.{◌∙◌, ◌≡◌, length, refl, arith, rules}
use mathlib.Core.Logic.{⊎_elim}
use Rattle.reference.specs.Control.{◌and◌, ◌or◌, when◌then◌else◌}
use Rattle.reference.specs.Names.{suffix}
use Rattle.names.proofs.Digits.{no_suffix, long_suffix, one_suffix, other-suffix}
use Rattle.names.proofs.families.suffix.Goals as goal

pub returns-in-empty : goal.returns-in-empty
returns-in-empty c = no_suffix c.args.s.now (omega arith)

pub returns-in-100 : goal.returns-in-100
unfolding suffix when◌then◌else◌ ◌or◌ ◌and◌
returns-in-100 c = one_suffix c.args.s.now (omega arith) 100 c.in-100.is

pub returns-in-119 : goal.returns-in-119
unfolding suffix when◌then◌else◌ ◌or◌ ◌and◌
returns-in-119 c = one_suffix c.args.s.now (omega arith) 119 c.in-119.is

pub returns-in-98 : goal.returns-in-98
unfolding suffix when◌then◌else◌ ◌or◌ ◌and◌
returns-in-98 c =
    let h : length c.args.s.now ≡ 1 = omega arith in
    ⊎_elim (λ e. one_suffix c.args.s.now h 98 e) (λ e. one_suffix c.args.s.now h 108 e) c.in-98.is

pub returns-in_default-b : goal.returns-in_default-b
returns-in_default-b c =
    other-suffix _ (search rules) (search rules) (search rules) (search rules) ∙ one_suffix c.args.s.now (omega arith) _ refl

pub returns-in_default : goal.returns-in_default
returns-in_default c = long_suffix c.args.s.now (omega arith)
