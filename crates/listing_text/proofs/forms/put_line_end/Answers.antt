-- `listing_text::forms::put_line_end` meets its contract. Assumes nothing.
use Rattle.listing_text.proofs.Pages.{puts_none, puts_as}
use Rattle.listing_text.proofs.Spelling.{no_line_end, some_line_end}
use Rattle.listing_text.proofs.forms.put_line_end.Goals as goal

pub returns-then-at-ne0 : goal.returns-then-at-ne0
returns-then-at-ne0 c = puts_as (some_line_end _ c.if-at-ne0.true) c.put_byte.ensures

pub returns-else-at-ne0 : goal.returns-else-at-ne0
returns-else-at-ne0 c = puts_as (no_line_end _ c.if-at-ne0.false) puts_none
