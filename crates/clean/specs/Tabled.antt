-- What a call's tables hold. Assumes nothing.
use Rattle.std.specs.Prelude.{ℕ, List, Result}
use Rattle.lines.specs.Marks.{lows_of, highs_of}
use Rattle.tape.specs.declared.questions.Totals.{Totals}
use Rattle.tables.specs.Tables.{Loaded, LoadedMarks, LoadedIf}
use Rattle.answers.specs.declared.Refusal.{Refusal}
use Rattle.clean.specs.declared.tabled.Tables.{Tables}

-- the listing of the tape, and the marks of its lines
abbrev pub Tabled : List ℕ → Tables → Totals → Type 0
Tabled tape own t =
    Loaded tape own.tokens own.lines own.addresses t × LoadedMarks tape own.lines (lows_of own.marks) (highs_of own.marks) t

-- the same of a tape that may be refused
abbrev pub TabledIf : List ℕ → Tables → Result Totals Refusal → Type 0
TabledIf tape own r = LoadedIf tape own.tokens own.lines own.addresses (lows_of own.marks) (highs_of own.marks) r
