-- `listing_text::forms::put_exact` meets its contract. Assumes nothing.
use mathlib.Core.Path.{ap}
use Rattle.std.proofs.Common.{[], ◌∷◌, ◌++◌, get_or}
use Rattle.reference.specs.Text.{Text}
use Rattle.listing_text.specs.Forms.{letters, exact_command}
use Rattle.listing_text.proofs.Pages.{puts_as}
use Rattle.listing_text.proofs.forms.put_exact.Goals as goal

pub returns-in-Addressed : goal.returns-in-Addressed
unfolding exact_command
returns-in-Addressed c = rw c.in-Addressed.is c.put_exact_line.ensures

pub returns-in-Plain : goal.returns-in-Plain
unfolding exact_command
returns-in-Plain c = rw c.in-Plain.is c.put_exact_line-in-Plain.ensures

pub returns-in-Marked : goal.returns-in-Marked
unfolding exact_command
returns-in-Marked c = rw c.in-Marked.is c.put_marks.ensures

pub returns-in-Token : goal.returns-in-Token
unfolding exact_command
returns-in-Token c = let e = rw c.in-Token.is at c.requires in
    rw c.in-Token.is (puts_as (ap (λ (t : Text). (9 ∷ get_or letters c.in-Token.kind 0 ∷ 58 ∷ []) ++ t) e.2) c.put_token.ensures)

pub returns-in-End : goal.returns-in-End
unfolding exact_command
returns-in-End c = rw c.in-End.is c.put_line_end.ensures
