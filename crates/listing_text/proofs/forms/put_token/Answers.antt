-- `listing_text::forms::put_token` meets its contract. Assumes nothing.
use mathlib.Core.Path.{ap}
use Prim.Native.Nat.{ℕ}
use mathlib.Core.List.{[], ◌∷◌}
use Rattle.listing_text.proofs.Pages.{then_puts, puts_as}
use Rattle.listing_text.proofs.forms.put_token.Goals as goal

pub returns : goal.returns
returns c = then_puts (puts_as (ap (λ (l : ℕ). 9 ∷ l ∷ 58 ∷ []) c.letter_of.ensures) c.put.ensures) c.put-2.ensures
