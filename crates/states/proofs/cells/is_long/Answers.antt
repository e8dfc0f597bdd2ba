-- `states::cells::is_long` meets its contract. Assumes nothing.
use Prim.Native.Nat.{ℕ}
use mathlib.Core.Path.{ap}
use lib.Dec.{ltb}
use Rattle.states.proofs.Contents.{most_is}
use Rattle.states.proofs.cells.is_long.Goals as goal

pub returns : goal.returns
returns c = ap (λ (k : ℕ). ltb k c.args.n) most_is
