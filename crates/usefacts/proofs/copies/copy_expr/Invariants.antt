-- What the loop of `usefacts::copies::copy_expr` keeps true: the first k words are copied. Assumes nothing.
use Rattle.std.proofs.Common.{◌≡◌, ◌≤◌, take, length}
use Rattle.lines.specs.Shapes.{expr_words}
use Rattle.usefacts.proofs.copies.copy_expr.Given as goal

abbrev pub invariant-loop-k : goal.invariant-loop-k
invariant-loop-k l = (take l.k l.out ≡ take l.k (expr_words l.line l.x)) × (length l.out ≡ length l.initial.out) × (l.k ≤ l.x.count)
