-- `listing_text::forms::own_span` meets its contract. Assumes nothing.
use Rattle.listing_text.specs.Forms.{own_span}
use Rattle.listing_text.proofs.forms.own_span.Goals as goal

pub returns-in-Some : goal.returns-in-Some
unfolding own_span
returns-in-Some c = rw c.in-Some.is

pub returns-in-None : goal.returns-in-None
unfolding own_span
returns-in-None c = rw c.in-None.is
