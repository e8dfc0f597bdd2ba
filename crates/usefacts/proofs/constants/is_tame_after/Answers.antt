-- `usefacts::constants::is_tame_after` meets its contract. Assumes nothing.
use borrow.Author.Rules.{rules}
use mathlib.Core.Path.{◌≡◌}
use mir.Val.{to_z, of_z}
use mir.Syntax.{w64}
use Rattle.usefacts.proofs.Sizes.{second_some}
use Rattle.usefacts.proofs.constants.is_tame_after.Goals as goal

pub returns-in-Some : goal.returns-in-Some
returns-in-Some c =
    let a : to_z w64 (of_z w64 c.args.a) ≡ c.args.a = search rules in
    let b : to_z w64 (of_z w64 c.in-Some.b) ≡ c.in-Some.b = search rules in
    second_some _ _ c.read_number.ensures (search rules) c.starts.ensures (rw (a, b) at c.is_small.ensures)
