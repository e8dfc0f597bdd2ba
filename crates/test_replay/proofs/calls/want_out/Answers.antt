-- `test_replay::calls::want_out` meets its contract. Assumes nothing.
use Prim.Native.Nat.{ℕ}
use mathlib.Core.Path.{ap, ◌∙◌}
use mathlib.Core.List.{List, ◌++◌}
use lib.ListN.{length, drop}
use Rattle.test_replay.proofs.Wanting.{has_room, has_no-room, copied}
use Rattle.test_replay.proofs.calls.want_out.Goals as goal

pub returns-then-wanted-out : goal.returns-then-wanted-out
returns-then-wanted-out c =
    let wanted = c.output_of-wanted.result.now in
    let out = c.args.out.now in
    has_room _ c.output_of-wanted.ensures out c.if-wanted-out.true
    (ap (λ (l : List ℕ). l ++ drop (length wanted) out) c.copy_from_slice.ensures.after ∙ copied out wanted)

pub returns-else-wanted-out : goal.returns-else-wanted-out
returns-else-wanted-out c = has_no-room _ c.output_of-wanted.ensures _ c.if-wanted-out.false
