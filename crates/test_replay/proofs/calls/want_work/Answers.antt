-- `test_replay::calls::want_work` meets its contract. Assumes nothing.
use Prim.Native.Nat.{ℕ}
use mathlib.Core.Path.{ap, ◌∙◌}
use mathlib.Core.List.{List, ◌++◌}
use lib.ListN.{drop, replicate}
use lib.Seq.{length-take-le}
use Rattle.test_replay.proofs.Wanting.{wiped, left_alone}
use Rattle.test_replay.proofs.calls.want_work.Goals as goal

pub returns-then-number-eq0 : goal.returns-then-number-eq0
returns-then-number-eq0 c =
    let zeros = c.fill.ensures.after (λ y e. e) ∙ ap (λ (n : ℕ). replicate n 0) (length-take-le 49152 c.args.area.now c.requires) in
    wiped _ c.number.ensures c.args.area.now c.if-number-eq0.true (ap (λ (l : List ℕ). l ++ drop 49152 c.args.area.now) zeros)

pub returns-else-number-eq0 : goal.returns-else-number-eq0
returns-else-number-eq0 c = left_alone _ c.number.ensures _ c.if-number-eq0.false
