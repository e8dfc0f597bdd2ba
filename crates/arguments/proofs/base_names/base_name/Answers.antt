-- `arguments::base_names::base_name` meets its contract. Assumes nothing.
use Rattle.std.proofs.Common.{◌+◌, sym, ap, ◌∙◌, drop}
use Rattle.arguments.specs.Names.{base_from}
use Rattle.laws.proofs.Parts.{to_end}
use Rattle.arguments.proofs.Turns.{base_here, base_on, base_begin, base_end}
use Rattle.arguments.proofs.base_names.base_name.Goals.{then-b-eq-SLASH, else-b-eq-SLASH}
use Rattle.arguments.proofs.base_names.base_name.Goals as goal

pub loop-i-init : goal.loop-i-init
loop-i-init c = base_begin _

pub loop-i-preserved : goal.loop-i-preserved
loop-i-preserved c = let p = c.args.path.now in
    elim c.if-b-eq-SLASH.branch [
      | then-b-eq-SLASH w ↦ c.loop-i.invariant ∙ base_here p _ c.loop-i.i c.loop-i-test.true w.if-b-eq-SLASH.true
          ∙ ap (λ t. base_from t (drop (c.loop-i.i + 1) p)) (sym (ap (λ b. b.now) w.base-is ∙ to_end (c.loop-i.i + 1) p))
      | else-b-eq-SLASH w ↦ c.loop-i.invariant ∙ base_on p _ c.loop-i.i c.loop-i-test.true w.if-b-eq-SLASH.false
          ∙ ap (λ t. base_from t (drop (c.loop-i.i + 1) p)) (sym (ap (λ b. b.now) w.base-is))
    ]

pub returns : goal.returns
returns c = sym (c.loop-i.invariant ∙ base_end _ _ c.loop-i.i c.loop-i-test.false)
