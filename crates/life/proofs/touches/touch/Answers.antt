-- `life::touches::touch` meets its contract. Assumes nothing.
use borrow.Author.Rules.{rules}
use borrow.Author.Tests.{not-true, not-false}
use Rattle.life.proofs.Touching.{touching, touch_plain, touch-kept}
use Rattle.life.proofs.touches.touch.Goals.{else-has_call-via-then-has_call+else-is_volatile, else-has_call-via-else-has_call}
use Rattle.life.proofs.touches.touch.Goals as goal

pub returns-then-overwrites : goal.returns-then-overwrites
returns-then-overwrites c = search (rules, not-true, not-false, touching)

pub returns-then-uses-gt0 : goal.returns-then-uses-gt0
returns-then-uses-gt0 c = search (rules, not-true, not-false, touching)

pub returns-then-is_volatile : goal.returns-then-is_volatile
returns-then-is_volatile c = search (rules, not-true, not-false, touching)

pub returns : goal.returns
returns c =
    elim c.else-has_call.branch [
      | else-has_call-via-then-has_call+else-is_volatile w ↦
          touch-kept _ _ _ c.overwrites.ensures c.if-overwrites.false c.count_of-uses.ensures c.if-uses-gt0.false
          c.has_call.ensures w.if-has_call.true w.is_volatile.ensures w.if-is_volatile.false
      | else-has_call-via-else-has_call w ↦ touch_plain _ _ _ c.overwrites.ensures c.if-overwrites.false c.count_of-uses.ensures c.if-uses-gt0.false c.has_call.ensures w.if-has_call.false
    ]
