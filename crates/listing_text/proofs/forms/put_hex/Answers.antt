-- `listing_text::forms::put_hex` meets its contract. Assumes nothing.
use Prim.Native.Nat.{min, max}
use native.Mathlib.Omega.{arith}
use mathlib.Core.Path.{◌≡◌, ◌∙◌}
use Rattle.listing_text.proofs.Pages.{puts_as}
use Rattle.listing_text.proofs.Spelling.{hex-spelt}
use Rattle.listing_text.proofs.forms.put_hex.Goals as goal

pub returns : goal.returns
returns c =
    let m : min (max c.args.least 1) 16 ≡ c.args.least = omega (arith, c.requires) in
    puts_as (c.hex-k.ensures.digits ∙ hex-spelt _ _ c.requires.1 c.ranges.n.fits (rw m at c.hex-k.ensures.len)) c.put.ensures
