-- `life::jumps::goto_passes` meets its contract. Assumes nothing.
use borrow.Author.Rules.{rules}
use Rattle.lines.proofs.words.Lines.{indent-below}
use Rattle.life.proofs.Jumping.{passes-stays, passes_unknown, passes_on, passes-back}
use borrow.Author.Tests.{lt-ltb}
use mathlib.Core.Path.{◌∙◌}
use Rattle.life.proofs.jumps.goto_passes.Goals as goal

pub returns-then-v-at : goal.returns-then-v-at
returns-then-v-at c = lt-ltb _ _ c.if-v-at.true ∙ search (rules, passes_on c.args.scope.now.listing.lines.now)

pub rerun_kills-requires : goal.rerun_kills-requires
rerun_kills-requires c = let p = c.requires in (p.0.0, p.2, search rules, p.3, rw c.indent.ensures (indent-below _))

pub returns-else-v-at : goal.returns-else-v-at
returns-else-v-at c = search (rules, passes-back c.args.scope.now.listing.lines.now)

pub returns-in-None : goal.returns-in-None
returns-in-None c = search (rules, passes-stays c.args.scope.now.listing.lines.now)

pub returns-in-Some-None : goal.returns-in-Some-None
returns-in-Some-None c = search (rules, passes_unknown c.args.scope.now.listing.lines.now)
