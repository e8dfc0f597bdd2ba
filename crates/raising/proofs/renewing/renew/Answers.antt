-- `raising::renewing::renew` meets its contract. Assumes nothing.
use native.Mathlib.Omega.{arith}
use mathlib.Core.Path.{sym, ◌∙◌}
use Rattle.raising.proofs.Renewed.{renewed_here, renewed_not}
use Rattle.raising.proofs.renewing.renew.Goals as goal

pub returns-then-is_noted : goal.returns-then-is_noted
returns-then-is_noted c =
    let a = c.args in
    renewed_here a.listing.now a.q a.all a.parts.now a.sets.now a.forms.now (omega (arith, c.requires.1, c.requires.2)) (omega (arith, c.requires.1, c.requires.3))
    (sym c.is_noted.ensures ∙ c.if-is_noted.true) c.form_at.ensures

pub returns-else-is_noted : goal.returns-else-is_noted
returns-else-is_noted c =
    let a = c.args in
    renewed_not a.listing.now a.q a.all a.parts.now a.sets.now a.forms.now (sym c.is_noted.ensures ∙ c.if-is_noted.false)
