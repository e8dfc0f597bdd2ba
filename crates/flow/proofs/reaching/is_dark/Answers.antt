-- `flow::reaching::is_dark` meets its contract. Assumes nothing.
use borrow.Author.Rules.{rules}
use native.Mathlib.Omega.{arith}
use Rattle.lines.specs.Texts.{bare_listing}
use Rattle.flow.proofs.Tables.{lines_long}
use Rattle.flow.proofs.Walking.{dark_unknown, dark_known}
use Rattle.flow.proofs.reaching.is_dark.Goals as goal

pub returns-then-not-is_known : goal.returns-then-not-is_known
returns-then-not-is_known c = let g = c.args.g.now in
    dark_unknown (bare_listing g.listing) c.args.k (omega (arith, lines_long g, c.requires.1)) c.is_known.ensures (search rules)

pub returns : goal.returns
returns c = let g = c.args.g.now in
    dark_known (bare_listing g.listing) c.args.k (omega (arith, lines_long g, c.requires.1)) c.is_known.ensures (search rules) (c.requires.0.table.each c.args.k c.requires.1).opaque_is
