-- `listing_text::forms::put_exact_line` meets its contract. Assumes nothing.
use Rattle.reference.specs.Options.{option_of}
use Rattle.listing_text.specs.Room.{Puts}
use Rattle.listing_text.specs.Forms.{exact_address}
use Rattle.listing_text.proofs.Pages.{then_puts, puts_as}
use Rattle.listing_text.proofs.Spelling.{sixteen}
use Rattle.listing_text.proofs.forms.put_exact_line.Goals.{in-Some, in-None}
use Rattle.listing_text.proofs.forms.put_exact_line.Goals as goal

pub returns : goal.returns
unfolding exact_address
returns c =
    let address : Puts c.put_line_end.new.out (exact_address (option_of c.args.address)) c.match-address.out
    = elim c.match-address.branch [
      | in-Some w ↦ rw (w.in-Some.is, w.out-is) (puts_as (sixteen w.in-Some.address) w.put_hex.ensures)
      | in-None w ↦ rw (w.in-None.is, w.out-is) w.put.ensures
    ] in
    then_puts (then_puts c.put_line_end.ensures address) (then_puts c.put-2.ensures c.put_decimal.ensures)
