-- `listing_text::forms::put_readable` meets its contract. Assumes nothing.
use Rattle.listing_text.specs.Forms.{read_command_text}
use Rattle.listing_text.proofs.Pages.{puts_none, puts_as}
use Rattle.listing_text.proofs.forms.put_readable.Goals as goal

pub returns-in-Addressed : goal.returns-in-Addressed
unfolding read_command_text
returns-in-Addressed c = rw c.in-Addressed.is c.put_readable_line.ensures

pub returns-in-Plain : goal.returns-in-Plain
unfolding read_command_text
returns-in-Plain c = rw c.in-Plain.is c.put_readable_line-in-Plain.ensures

pub returns-in-Marked : goal.returns-in-Marked
unfolding read_command_text
returns-in-Marked c = rw c.in-Marked.is puts_none

pub returns-in-Token : goal.returns-in-Token
unfolding read_command_text
returns-in-Token c = let e = rw c.in-Token.is at c.requires in
    rw c.in-Token.is (puts_as e.2 c.put.ensures)

pub returns-in-End : goal.returns-in-End
unfolding read_command_text
returns-in-End c = rw c.in-End.is c.put_line_end.ensures
