-- The loop that puts a tape's commands in the other form: what it comes to as bytes, and that there is room. Assumes nothing.
use Prim.Native.Nat.{ℕ, ◌+◌, ◌≤◌}
use native.Mathlib.Omega.{arith}
use mathlib.Core.Path.{◌≡◌, refl, sym, ap, ◌∙◌}
use mathlib.Core.Bool.{Bool, true, false, false≢true}
use mathlib.Core.List.{List, [], ◌∷◌, ◌++◌, map, flat_map}
use mathlib.Core.Option.{Option, none, some}
use lib.ListN.{length, length-append}
use Rattle.reference.specs.Control.{let_some◌else◌then◌}
use Rattle.reference.specs.Listing.{Token, Listing}
use Rattle.reference.specs.Spans.{Span, Marks}
use Rattle.reference.specs.Tape as Tape
use Rattle.reference.specs.Tape.{TapeForm, write_command, write_command_by, write_lines_by, write_by}
use Rattle.reference.specs.Questions.{Passed, read_by, marks_in_by}
use Rattle.reference.proofs.LittleEndian.{Bytes, to_length}
use Rattle.reference.proofs.Writing.{write-length_by}
use Rattle.reference.proofs.Limits.{All}
use Rattle.reference.proofs.Tapes.{read-limits_by}
use Rattle.text.specs.Cursor.{Fits, Puts}
use Rattle.text.specs.declared.cursor.Cursor.{Cursor}
use Rattle.text.proofs.Cursors.{then_puts, puts_as}
use Rattle.tape.specs.Commands.{form_of}
use Rattle.tape.specs.Held.{Place, places_by, lines_put, command_with, line_with, marks_with}
use Rattle.tape.specs.Walk.{ByteFits}
use Rattle.tape.proofs.walk.Written.{changed-written}
use Rattle.tape.proofs.walk.Accepted.{CommandFitsBy, accepted-commands, accepted_fit}
use Rattle.tape.proofs.walk.Places.{none-passes}
use Rattle.tape.proofs.walk.Loops.{flat_unplaced, each_place}
use Rattle.offsets.specs.Offsets.{front, move_line, move_marks, move_lines, move_all_marks}
use Rattle.offsets.specs.Calls.{other_form, bad_for, moved_by, move_command, moved_bytes, Ready}
use Rattle.offsets.proofs.Moving.{moved-limits}
use Rattle.offsets.proofs.Searching.{bad_command, first-place}

-- 06 and the base
pub front_size : (base : ℕ) → length (front base) ≡ 9
unfolding front
front_size base = omega (arith, to_length 8 base)

pub to_old : (based : Bool) → based ≡ true → form_of false ≡ other_form based
to_old true e = refl
to_old false e = absurd (false≢true e)

pub to_based : (based : Bool) → based ≡ false → form_of true ≡ other_form based
to_based false e = refl
to_based true e = absurd (false≢true (sym e))

-- the end is the same in both forms
pub end_is : (based : Bool) → write_command_by (other_form based) Tape.end ≡ write_command Tape.end
unfolding write_command_by
end_is based = refl

-- ---- a command moved, and a listing

module _ (f : ℕ → ℕ) where
  abbrev on_address : Option ℕ → Option ℕ
  on_address o = let_some o else none then λ a. some (f a)

  abbrev on_span : Span → Span
  on_span s = record { lowest = f s.lowest; highest = f s.highest }

  command_same : (c : Tape.Command) → move_command f c ≡ command_with on_address on_span (λ t. t) c
  unfolding move_command
  command_same (Tape.new_line address indent) = refl
  command_same (Tape.marked s) = refl
  command_same (Tape.new_token t) = refl
  command_same Tape.end = refl

  pub moved-byte_fits : (c : Tape.Command) → ByteFits c → ByteFits (move_command f c)
  unfolding move_command
  moved-byte_fits (Tape.new_line address indent) h = h
  moved-byte_fits (Tape.marked s) h = tt
  moved-byte_fits (Tape.new_token t) h = h
  moved-byte_fits Tape.end h = tt

  same_tokens : (ts : List Token) → map (λ t. t) ts ≡ ts
  same_tokens [] = refl
  same_tokens (t ∷ ts) = ap (λ (r : List Token). t ∷ r) (same_tokens ts)

  lines_same : (lines : Listing) → map (line_with on_address on_span (λ t. t)) lines ≡ move_lines f lines
  unfolding move_lines move_line
  lines_same [] = refl
  lines_same (l ∷ ls) = λ i. record { address = on_address l.address; indent = l.indent; tokens = same_tokens l.tokens i } ∷ lines_same ls i

  marks_same : (marks : List Marks) → map (marks_with on_address on_span (λ t. t)) marks ≡ move_all_marks f marks
  unfolding move_all_marks move_marks let_some◌else◌then◌
  marks_same [] = refl
  marks_same (none ∷ ms) = ap (λ (r : List Marks). none ∷ r) (marks_same ms)
  marks_same (some s ∷ ms) = ap (λ (r : List Marks). some (on_span s) ∷ r) (marks_same ms)

  pub moved-written : (form : TapeForm) (lines : Listing) (marks : List Marks)
      → flat_map (λ c. write_command_by form (move_command f c)) (lines_put lines marks) ≡ write_lines_by form (move_lines f lines) (move_all_marks f marks)
  moved-written form lines marks =
      (λ i. flat_map (λ c. write_command_by form (command_same c i)) (lines_put lines marks))
      ∙ changed-written on_address on_span (λ t. t) form lines marks
      ∙ λ i. write_lines_by form (lines_same lines i) (marks_same marks i)

-- ---- the loop

module _ (based : Bool) (base : ℕ) (tape : List ℕ) where
  abbrev form : TapeForm
  form = form_of based

  -- what is put of a command
  abbrev pub bytes_of : Place → List ℕ
  bytes_of p = moved_bytes based base p.1

  -- what holds of each
  abbrev pub Movable : Place → Type 0
  Movable p = CommandFitsBy form p.1 × (bad_command (bad_for based base) p.1 ≡ false)

  module _ (lines : Listing) (b : Bytes tape) (reads : read_by form tape ≡ Passed lines) where
    all-written : flat_map bytes_of (places_by form tape)
        ≡ write_lines_by (other_form based) (move_lines (moved_by based base) lines) (move_all_marks (moved_by based base) (marks_in_by form tape))
    all-written =
        flat_unplaced (moved_bytes based base) (places_by form tape)
        ∙ ap (flat_map (moved_bytes based base)) (accepted-commands form tape lines b reads)
        ∙ moved-written (moved_by based base) (other_form based) lines (marks_in_by form tape)

    pub all-room : length (flat_map bytes_of (places_by form tape)) + 1 ≤ 34561
    unfolding write_by write_command_by
    all-room =
        let f = moved_by based base in
        let m = moved-limits f lines (read-limits_by form tape lines reads) in
        let w = write-length_by (other_form based) (move_lines f lines) (move_all_marks f (marks_in_by form tape)) in
        let written = write_lines_by (other_form based) (move_lines f lines) (move_all_marks f (marks_in_by form tape)) in
        omega (arith, w, m.few_lines, m.few_tokens, m.short_text, ap length all-written, length-append written (0xFF ∷ []))

    pub whole_put : {p p₁ p₂ : Cursor} → Fits p 34561 → Puts p (flat_map bytes_of (places_by form tape)) p₁ → Puts p₁ (write_command_by (other_form based) Tape.end) p₂
        → Puts p (write_by (other_form based) (move_lines (moved_by based base) lines) (move_all_marks (moved_by based base) (marks_in_by form tape))) p₂
    unfolding write_by
    whole_put room x y = puts_as (then_puts x (omega (arith, room)) y) (λ i. all-written i ++ write_command_by (other_form based) Tape.end)

  module _ (k : Ready based base tape) (b : Bytes tape) where
    both : (ps : List Place) → All (λ p. CommandFitsBy form p.1) ps → All (λ p. bad_command (bad_for based base) p.1 ≡ false) ps → All Movable ps
    both [] h u = tt
    both (p ∷ ps) h u = ((h.0, u.0), both ps h.1 u.1)

    pub all_movable : All Movable (places_by form tape)
    all_movable =
        both (places_by form tape)
        (each_place (CommandFitsBy form) (places_by form tape) (accepted_fit form tape k.read.lines b k.read.reads))
        (none-passes (bad_command (bad_for based base)) (places_by form tape) (sym (first-place form (bad_for based base) tape k.read.lines b k.read.reads) ∙ k.none_bad))
