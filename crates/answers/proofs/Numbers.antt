-- A reason has a number, and 0 is none. Assumes nothing.
use native.Mathlib.Omega.{arith}
use mathlib.Core.Path.{◌≡◌}
use Rattle.answers.specs.declared.Reason.{Reason}
use Rattle.answers.specs.declared.Reason.TheVariants as reason
use Rattle.answers.specs.Refusals.{number_of}

pub numbered : (r : Reason) → number_of r ≡ 0 → ⊥
numbered reason.UnknownConvention e = omega arith
numbered reason.UnknownEdition e = omega arith
numbered reason.TooLittleRoom e = omega arith
numbered reason.NoCommand e = omega arith
numbered reason.CutOff e = omega arith
numbered reason.OutOfPlace e = omega arith
numbered reason.OutOfBounds e = omega arith
numbered reason.TooMany e = omega arith
numbered reason.TooMuchText e = omega arith
numbered reason.Unprintable e = omega arith
numbered reason.BytesAfterEnd e = omega arith
numbered reason.NewKeyword e = omega arith
numbered reason.UnreadNumber e = omega arith
numbered reason.OutsideProfile e = omega arith
numbered reason.NoStartValue e = omega arith
numbered reason.NoRegister e = omega arith
numbered reason.TooLong e = omega arith
numbered reason.OutOfReach e = omega arith
numbered reason.NoBase e = omega arith
numbered reason.NotHeld e = omega arith
numbered reason.StoreFull e = omega arith
numbered reason.BrokenCell e = omega arith
