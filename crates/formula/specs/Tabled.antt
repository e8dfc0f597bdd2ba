-- What the tables of a tape that is asked for the profile hold. Assumes nothing.
use Rattle.std.specs.Prelude.{ℕ, List, Result, Ok, Err}
use Rattle.tape.specs.declared.questions.Totals.{Totals}
use Rattle.tables.specs.Tables.{Loaded}
use Rattle.answers.specs.declared.Refusal.{Refusal}

-- the listing of the tape, with the addresses of its lines; of a tape that is refused, nothing is said
abbrev pub TabledIf : List ℕ → List ℕ → List ℕ → Result Totals Refusal → Type 0
TabledIf tape tokens lines (Ok t) = (addresses : List ℕ) × Loaded tape tokens lines addresses t
TabledIf tape tokens lines (Err r) = Unit {0}
