-- `solving::solve_odd` meets its contract. Assumes nothing.
use Rattle.std.proofs.Common.{◌∙◌, refl, arith, rules}
use Rattle.solving.proofs.Solving.{first_turn, sum_fits, next_turn, last_turn, added, not-added}
use Rattle.solving.proofs.solve_odd.Goals as goal
use Rattle.solving.proofs.solve_odd.Goals.{then-rest-eq1, else-rest-eq1}

pub loop-i-init : goal.loop-i-init
loop-i-init c = first_turn 63 _ _ _ c.requires.0 c.requires.1

pub overflow_add-x : goal.overflow_add-x
overflow_add-x c =
    let l = c.loop-i in
    omega (arith, sum_fits 63 _ _ _ c.requires.0 c.requires.1 l._i l.x l.bit l.rest (search rules) l.invariant)

pub left-rest-requires : goal.left-rest-requires
left-rest-requires c = c.requires.0

pub loop-i-preserved : goal.loop-i-preserved
loop-i-preserved c =
    let l = c.loop-i in
    let again = next_turn 63 _ _ _ c.requires.0 c.requires.1 l._i l.x l.bit l.rest in
    elim c.if-rest-eq1.branch [
      | then-rest-eq1 w ↦
          again _ _ _ (search rules) l.invariant (w.x-is ∙ added l.x l.bit l.rest w.if-rest-eq1.true)
          refl c.left-rest.ensures
      | else-rest-eq1 w ↦
          again _ _ _ (search rules) l.invariant (w.x-is ∙ not-added l.x l.bit l.rest (omega (arith, w.if-rest-eq1.false)))
          refl c.left-rest.ensures
    ]

pub returns : goal.returns
returns c = last_turn 63 _ _ _ c.requires.0 c.requires.1 _ _ _ _ (search rules) c.loop-i.invariant
