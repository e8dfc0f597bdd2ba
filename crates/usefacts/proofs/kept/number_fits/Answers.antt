-- `usefacts::kept::number_fits` meets its contract. Assumes nothing.
use borrow.Author.Rules.{rules}
use mathlib.Core.Path.{◌≡◌}
use mir.Val.{to_z, of_z}
use mir.Syntax.{w64}
use Rattle.usefacts.proofs.Keeping.{number_narrower, number_kept}
use Rattle.usefacts.proofs.kept.number_fits.Goals as goal

pub returns-then-beside_narrower : goal.returns-then-beside_narrower
returns-then-beside_narrower c = number_narrower _ _ _ _ _ c.first_number.ensures c.in-Some.is c.beside_narrower.ensures (search rules)

pub returns : goal.returns
returns c =
    let b : to_z w64 (of_z w64 c.in-Some.n) ≡ c.in-Some.n = search rules in
    number_kept _ _ _ _ _ c.first_number.ensures c.in-Some.is c.beside_narrower.ensures (search rules) (rw b at c.fits_widths.ensures)
