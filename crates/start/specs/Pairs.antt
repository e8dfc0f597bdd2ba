-- What the code reckons with in place of numbers: pairs of a multiplier m and a constant c, which stand for m · v + c where the chosen
-- register starts with v. That a formula reckoned in pairs returns this for every v is a theorem (proofs/Formula.antt). Assumes nothing.
use Rattle.std.specs.Prelude.{ℕ, ◌+◌, ◌*◌, ◌%◌, ◌^◌, List}
use Rattle.std.proofs.Math.Option.{Option}
use Rattle.reference.specs.Text.{Text}
use Rattle.reference.specs.Listing.{Listing}
use Rattle.reference.specs.Evaluators.{Arithmetic, of_integer}
use Rattle.reference.specs.Straight.{assign, execute}
use Rattle.formula.specs.Values.{Pair, pairs}
use Rattle.start.specs.Start.{Entry, listed}

-- a number has no multiple of the chosen register
abbrev pub affine : Arithmetic Pair
affine = pairs (λ z. (0, of_integer z))

-- the chosen register is 1 · v + 0; any other has its listed value
abbrev pub start_pairs : Text → List Entry → Text → Pair
start_pairs chosen es = assign chosen (1, 0) (λ x. (0, listed es x))

-- the number that a pair stands for
unfoldable pub at_start : ℕ → Pair → ℕ
at_start v p = (p.0 * v + p.1) % 2 ^ 64

-- what a formula returns, in pairs
abbrev pub returned_pair : Text → List Entry → Listing → Option Pair
returned_pair chosen es lines = execute affine (start_pairs chosen es) lines
