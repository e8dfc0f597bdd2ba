-- `life::labels::gather_labels` meets its contract. Assumes nothing.
use borrow.Author.Rules.{rules}
use Rattle.life.proofs.Places.{gathered_begin, gathered_hit, gathered_miss}
use Rattle.life.proofs.labels.gather_labels.Goals as goal
use Rattle.life.proofs.labels.gather_labels.Goals.{then-is_label, else-is_label}

pub loop-k-init : goal.loop-k-init
loop-k-init c = (search rules, search (rules, gathered_begin))

pub loop-k-preserved : goal.loop-k-preserved
loop-k-preserved c =
    let l = c.loop-k in
    let kept = l.invariant.1 in
    let line = c.line_of.ensures in
    let label = c.is_label.ensures in
    elim c.if-is_label.branch [
      | then-is_label w ↦ (
        search rules,
        rw (w.labels-is, w.n-is)
            (gathered_hit _ _ _ _ _ l.k kept (search rules) line label w.if-is_label.true (search rules)),
      )
      | else-is_label w ↦ (
        search rules,
        rw (w.labels-is, w.n-is)
            (gathered_miss _ _ _ _ _ l.k kept (search rules) line label w.if-is_label.false),
      )
    ]
