-- `usefacts::constants::is_short` meets its contract. Assumes nothing.
use borrow.Author.Rules.{rules}
use mathlib.Core.Path.{◌≡◌}
use mir.Val.{to_z, of_z}
use mir.Syntax.{w64}
use Rattle.usefacts.proofs.Sizes.{short_below, short_plus}
use Rattle.usefacts.proofs.constants.is_short.Goals as goal

pub returns-then-minus : goal.returns-then-minus
returns-then-minus c =
    let b : to_z w64 (of_z w64 c.args.b) ≡ c.args.b = search rules in
    short_below _ _ (rw b at c.is_below_zero-below.ensures) (rw b at c.size-n.ensures) (search rules) (search rules)

pub returns : goal.returns
returns c =
    let b : to_z w64 (of_z w64 c.args.b) ≡ c.args.b = search rules in
    short_plus _ _ (rw b at c.is_below_zero-below.ensures) (rw b at c.size-n.ensures) (search rules)
