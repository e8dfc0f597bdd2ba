-- The questions before the tape is read, as one list. Assumes nothing.
use Rattle.std.specs.Prelude.{ℕ, Bool, List, [], ◌∷◌, leb}
use Rattle.reference.specs.Control.{◌and◌}
use Rattle.reference.specs.Rules.{Rules}
use Rattle.reference.specs.Questions.{WORK, is_convention, is_edition}

-- are both work areas long enough, and has the output `least` bytes?
abbrev pub is_enough : ℕ → ℕ → ℕ → ℕ → Bool
is_enough work_a work_b output least = leb WORK work_a and leb WORK work_b and leb least output

-- each question's number, and whether it is answered "yes"
abbrev pub before_the_tape : Rules → ℕ → ℕ → ℕ → ℕ → List (ℕ × Bool)
before_the_tape rules a b output least = (1, is_convention rules) ∷ (9, is_edition rules) ∷ (2, is_enough a b output least) ∷ []
