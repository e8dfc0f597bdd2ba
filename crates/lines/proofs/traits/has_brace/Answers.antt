-- `lines::traits::has_brace` meets its contract. Assumes nothing.
use borrow.Author.Rules.{rules}
use mathlib.Core.Path.{◌∙◌}
use mathlib.Core.Bool.{◌||◌}
use lib.Dec.{eqb}
use Rattle.std.proofs.lemmas.Iterator.{YieldsList-from_slice}
use Rattle.std.proofs.lemmas.Iterator.Search.{any_from_yields_List}
use Rattle.lines.proofs.traits.Tests.{braces}
use Rattle.lines.proofs.traits.has_brace.Goals as goal

pub returns : goal.returns
returns c =
    let s = c.args.s.now in
    any_from_yields_List (λ b. eqb b 123 || eqb b 125) _ _ _ c.any.ensures.ran (YieldsList-from_slice s (cc)) (λ x b q k. search rules) ∙ braces s
