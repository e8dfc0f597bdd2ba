-- What the code's reach of a constant means: it has ended at a Break, and goes on at a Continue. Assumes nothing.
use Rattle.std.specs.Prelude.{true, false}
use Rattle.std.specs.declared.ops.ControlFlow.{ControlFlow}
use Rattle.std.specs.declared.ops.ControlFlow.TheVariants.{Break, Continue}
use Rattle.joining.specs.Plan as J
use Rattle.plan.specs.declared.reaches.Reach.{Reach}

-- the reach of a search that goes on
abbrev pub reached : Reach → J.Reach
reached r = record { used = r.used; last = r.last; ended = false }

abbrev pub reach : ControlFlow Reach Reach → J.Reach
reach (Continue r) = reached r
reach (Break r) = record { used = r.used; last = r.last; ended = true }
