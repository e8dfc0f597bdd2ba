-- What the call answers, by what the equation m · x + c = wanted has for its solution. Assumes nothing.
use Rattle.std.specs.Prelude.{ℕ, Option, Some, None}
use Rattle.reference.specs.Questions.{Answer, Refused, Passed}

abbrev pub answered : Option ℕ → Answer ℕ
answered (Some x) = Passed x
answered None = Refused 15 0
