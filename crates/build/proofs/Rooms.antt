-- How much text a line comes to take at most: what its tokens take, merged, and what their folds make. Assumes nothing.
use Prim.Native.Nat.{◌+◌, ◌≤◌}
use native.Mathlib.Omega.{arith}
use mathlib.Core.Path.{◌≡◌}
use mathlib.Core.List.{List}
use Rattle.reference.specs.Listing.{Token}
use Rattle.reference.specs.Numbers.{merge}
use Rattle.reference.specs.Claim.{sum, text_in}
use Rattle.joining.specs.Limits.{room, over}
use Rattle.joining.proofs.Room.{merged_room}
use Rattle.build.specs.Folding.{signs_room}
use Rattle.build.proofs.Folding.{signs_drop}

module _ (ts : List Token) (short : sum over ts ≡ 0) where
  pub text_room : text_in ts ≤ sum room ts
  text_room = omega (arith, merged_room ts short)

  pub room_covers : text_in ts + signs_room (merge ts) ≤ sum room ts
  unfolding signs_room
  room_covers = omega (arith, merged_room ts short, signs_drop (merge ts))
