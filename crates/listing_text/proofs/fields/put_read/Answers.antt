-- `listing_text::fields::put_read` meets its contract. Assumes nothing.
use mathlib.Core.Path.{refl}
use Rattle.listing_text.proofs.Fielding.{lays_right, lays_nothing, lies_wrong}
use Rattle.listing_text.proofs.fields.put_read.Goals as goal

pub returns-in_err-ok_or : goal.returns-in_err-ok_or
returns-in_err-ok_or c = rw (c.in_err-ok_or.ensures.ok_part) (record { lays = rw (lies_wrong c.args.out.now c.from_residual.result c.from_residual.ensures.0) lays_nothing; lent = refl })

pub returns : goal.returns
returns c = rw c.in_ok-ok_or.ensures.ok_part (record { lays = lays_right c.put.ensures.adds; lent = c.put.ensures.lent })
