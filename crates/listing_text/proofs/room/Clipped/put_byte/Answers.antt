-- `listing_text::room::Clipped::put_byte` meets its contract. Assumes nothing.
use mathlib.Core.Path.{refl}
use borrow.Author.Rules.{rules}
use Rattle.listing_text.proofs.Pages.{adds-fits, adds-cut}
use Rattle.listing_text.proofs.room.Clipped.put_byte.Goals as goal

pub returns-then-at-self : goal.returns-then-at-self
returns-then-at-self c = record { adds = adds-fits _ _ (search rules); lent = refl }

pub returns-else-at-self : goal.returns-else-at-self
returns-else-at-self c = record { adds = adds-cut _ _ (search rules); lent = refl }
