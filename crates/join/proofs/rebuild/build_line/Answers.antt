-- `join::rebuild::build_line` meets its contract. Assumes nothing.
use Rattle.join.proofs.Placing.{keepable, placed-kept, rewritable, placed_rewritten}
use Rattle.join.proofs.rebuild.build_line.Goals as goal

pub rewrite_line-requires : goal.rewrite_line-requires
rewrite_line-requires c = rw c.substitution.ensures (rewritable c.requires (c.is_changed.ensures _) c.if-is_changed.true)

pub returns-then-is_changed-clause-placed : goal.returns-then-is_changed-clause-placed
returns-then-is_changed-clause-placed c =
    placed_rewritten c.requires (c.is_changed.ensures _) c.if-is_changed.true (rw c.substitution.ensures at c.rewrite_line.ensures.rewritten)

pub keep_line-requires : goal.keep_line-requires
keep_line-requires c =
    keepable c.requires (c.is_changed.ensures _) c.if-is_changed.false

pub returns-else-is_changed-clause-placed : goal.returns-else-is_changed-clause-placed
returns-else-is_changed-clause-placed c =
    placed-kept c.requires (c.is_changed.ensures _) c.if-is_changed.false c.keep_line.ensures.kept
