-- `life::jumps::while_passes` meets its contract. Assumes nothing.
use mathlib.Core.Path.{◌∙◌}
use borrow.Author.Rules.{rules}
use Rattle.lines.proofs.words.Lines.{indent-below}
use Rattle.life.proofs.Jumping.{loop_uses, loop_none, loop-after, loop_around}
use borrow.Author.Tests.{le-leb}
use Rattle.life.proofs.jumps.while_passes.Goals as goal

pub returns-then-uses : goal.returns-then-uses
returns-then-uses c = search (rules, loop_uses c.args.listing.now.lines.now)

pub returns-in_default : goal.returns-in_default
returns-in_default c = search (rules, loop_none c.args.listing.now.lines.now)

pub returns-then-v-d : goal.returns-then-v-d
returns-then-v-d c = le-leb _ _ c.if-v-d.true ∙ search (rules, loop-after c.args.listing.now.lines.now)

pub rerun_kills-requires : goal.rerun_kills-requires
rerun_kills-requires c = let p = c.requires in (p.0, p.1, search rules, p.3, rw c.indent-indent.ensures (indent-below _))

pub returns-else-v-d : goal.returns-else-v-d
returns-else-v-d c = search (rules, loop_around c.args.listing.now.lines.now)
