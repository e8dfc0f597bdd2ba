-- `listing_text::forms::put_marks` meets its contract. Assumes nothing.
use Rattle.listing_text.proofs.Pages.{then_puts, puts_as}
use Rattle.listing_text.proofs.Spelling.{sixteen}
use Rattle.listing_text.proofs.forms.put_marks.Goals as goal

pub returns : goal.returns
returns c =
    then_puts (then_puts (then_puts c.put.ensures (puts_as (sixteen c.args.low) c.put_hex.ensures)) c.put-2.ensures)
    (puts_as (sixteen c.args.high) c.put_hex-2.ensures)
