-- Rust's `Option` as the definitions' own, which the contracts of functions with an `Option` as their answer go through. Assumes nothing.
use Rattle.std.specs.Prelude as std
use Rattle.std.proofs.Math.Option.{Option, none, some}

module _ {A : Type 0} where
  abbrev pub option_of : std.Option A → Option A
  option_of (std.Some x) = some x
  option_of std.None = none
