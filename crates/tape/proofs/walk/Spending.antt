-- The commands of some bytes take no more than these. Assumes nothing.
use Prim.Native.Nat.{ℕ, zero, suc, ◌+◌, ◌≤◌}
use native.Mathlib.Omega.{arith}
use mathlib.Core.List.{List, [], ◌∷◌}
use lib.ListN.{length, drop, length-drop, length-take}
use Rattle.reference.specs.Tape as Tape
use Rattle.reference.specs.Tape.{TapeForm, old, command_size_by, command_by}
use Rattle.reference.proofs.Cases.{by-if}
use Rattle.reference.proofs.Commands.{FormBy, is_address, is_plain, is_marks, is_token, is_ending, address_form_by, plain_form_by, marks_form_by, token_form_by, end_form_by}
use Rattle.tape.specs.Held.{Place, places_from, places_at, unplaced, commands}
use Rattle.tape.proofs.walk.Following.{goes_by}

-- a line's two bytes or more, a token's three and its text
abbrev pub bytes_of : List Tape.Command → ℕ
bytes_of [] = 0
bytes_of (Tape.new_line address indent ∷ more) = 2 + bytes_of more
bytes_of (Tape.marked s ∷ more) = bytes_of more
bytes_of (Tape.new_token t ∷ more) = 3 + length t.text + bytes_of more
bytes_of (Tape.end ∷ more) = bytes_of more

module _ (form : TapeForm) where
  head : (rest : List ℕ) → FormBy form rest → (more : List Tape.Command) → bytes_of (command_by form rest ∷ more) ≤ command_size_by form rest + bytes_of more
  head rest (is_address e) more = let f = address_form_by form rest e in rw (f.1, f.0) (omega arith)
  head rest (is_plain e) more = let f = plain_form_by form rest e in rw (f.1, f.0) (omega arith)
  head rest (is_marks e) more = let f = marks_form_by form rest e in rw (f.1, f.0) (omega arith)
  head rest (is_token low high) more = let f = token_form_by form rest low high in rw (f.1, f.0) (omega (arith, length-take {A = ℕ}))
  head rest (is_ending e) more = let f = end_form_by form rest e in rw (f.1, f.0) (omega arith)

  from : (fuel at : ℕ) (rest : List ℕ) → bytes_of (unplaced (places_from form fuel at rest)) ≤ length rest
  unfolding places_from
  from zero at rest = omega arith
  from (suc fuel) at rest =
      let n = command_size_by form rest in
      by-if (λ (ps : List Place). bytes_of (unplaced ps) ≤ length rest)
      (λ e. (let g = goes_by form rest e in
      omega (arith, head rest g.known (unplaced (places_from form fuel (at + n) (drop n rest))), from fuel (at + n) (drop n rest), g.inside, length-drop n rest)))
      (λ e. omega arith)

  pub few_by : (at : ℕ) (rest : List ℕ) → bytes_of (unplaced (places_at form at rest)) ≤ length rest
  unfolding places_at
  few_by at rest = from (length rest) at rest

pub few : (tape : List ℕ) → bytes_of (commands tape) ≤ length tape
few tape = few_by old 0 tape
