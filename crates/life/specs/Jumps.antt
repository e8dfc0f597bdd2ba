-- What the code's answers on jumps mean. Assumes nothing.
use Rattle.std.specs.Prelude.{ℕ}
use Rattle.std.specs.Prelude as std
use Rattle.std.proofs.Math.Option.{Option, none, some}
use Rattle.reference.specs.Options.{option_of}

abbrev pub jump : std.Option (std.Option ℕ) → Option (Option ℕ)
jump std.None = none
jump (std.Some to) = some (option_of to)
