-- `replays::Counts::with` meets its contract. Assumes nothing.
use Prim.Native.Nat.{ℕ, ◌+◌}
use native.Mathlib.Nat.{add-zero}
use mathlib.Core.Path.{◌≡◌, refl}
use mathlib.Core.Bool.{Bool, true, false}
use Rattle.std.specs.Prelude.{not}
use Rattle.std.specs.Int.{from_bool}
use Rattle.reference.specs.Control.{when◌then◌else◌}
use Rattle.replays.specs.declared.Counts.{Counts}
use Rattle.replays.proofs.Counts.with.Goals as goal

one_more : (n : Counts) (right : Bool) {d : ℕ} → d ≡ from_bool (not right) → {m : Counts} → m ≡ record { calls = n.calls + 1; differ = n.differ + d }
    → m ≡ (when right then record { calls = n.calls + 1; differ = n.differ } else record { calls = n.calls + 1; differ = n.differ + 1 })
unfolding when◌then◌else◌
one_more n true e h = rw (e, add-zero n.differ) at h
one_more n false e h = rw e at h

pub returns-clause-value : goal.returns-clause-value
returns-clause-value c = one_more _ _ c.from.ensures refl
