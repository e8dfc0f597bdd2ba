-- `listing_text::forms::put_readable_line` meets its contract. Assumes nothing.
use Rattle.reference.specs.Options.{option_of}
use Rattle.listing_text.specs.Room.{Puts}
use Rattle.listing_text.specs.Forms.{read_address, span_text}
use Rattle.listing_text.proofs.Pages.{then_puts, puts_as}
use Rattle.listing_text.proofs.Spelling.{short}
use Rattle.listing_text.proofs.forms.put_readable_line.Goals.{in-Some, in-None}
use Rattle.listing_text.proofs.forms.put_readable_line.Goals as goal

pub returns : goal.returns
unfolding read_address
returns c =
    let marks = puts_as (λ i. span_text (c.own_span.ensures i) (c.marks_at.ensures i)) c.put_span.ensures in
    let address : Puts c.put_span.new.out (read_address (option_of c.args.address)) c.match-address.out
    = elim c.match-address.branch [
      | in-Some w ↦ rw (w.in-Some.is, w.out-is) (then_puts (puts_as (short w.in-Some.address) w.put_hex.ensures) w.put.ensures)
      | in-None w ↦ rw (w.in-None.is, w.out-is) w.put-in-None.ensures
    ] in
    then_puts (then_puts (then_puts c.put_line_end.ensures marks) address) c.put_blanks.ensures
