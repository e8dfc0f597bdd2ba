-- The commands of an accepted tape, in either form: those that its listing and its marks are written as, each within the limits. And of a listing's tape
-- with anything behind it, also where it is too long to be accepted. Assumes nothing.
use Prim.Native.Nat.{ℕ, ◌≤◌}
use native.Mathlib.Omega.{arith}
use mathlib.Core.Path.{◌≡◌, refl, sym, ap, ◌∙◌}
use mathlib.Core.List.{List, [], ◌∷◌, ◌++◌, flat_map, append_assoc, append-nil}
use mathlib.Core.Option.{none, some}
use lib.ListN.{length, drop}
use Rattle.reference.specs.Listing.{Token, Listing}
use Rattle.reference.specs.Spans.{Marks}
use Rattle.reference.specs.Tape.{TapeForm, old, header, Command, new_line, marked, new_token, end, write_command_by, write_lines_by, write_by, write}
use Rattle.reference.specs.Questions.{Passed, read_by, marks_in_by, read}
use Rattle.reference.specs.Claim.{text_in, text}
use Rattle.reference.proofs.LittleEndian.{Bytes}
use Rattle.reference.proofs.Commands.{AddressFitsBy}
use Rattle.reference.proofs.Limits.{All, TokenFits, LineFits, MarksFitBy}
use Rattle.reference.proofs.Tapes.{write-read_by, read-fits_by, read-marks_fit_by}
use Rattle.reference.proofs.Unmarked.{Holdable, HoldableMarks}
use Rattle.tape.specs.Held.{Place, places_at, places_by, placed, unplaced, commands_by, lines_of, marks_of, lines_put, held}
use Rattle.tape.specs.Walk.{ByteFits}
use Rattle.tape.proofs.walk.Reading.{InnerBy, read-all, unplaced-placed}
use Rattle.tape.proofs.walk.Written.{OfLine, OfMarks, all_put, lines_written, lines_back, marks_back}

-- ---- one command

-- what the questions let pass of it, and what a tape of bytes holds; it is not the end
abbrev pub CommandFitsBy : TapeForm → Command → Type 0
CommandFitsBy form (new_line address indent) = (indent ≤ 63) × AddressFitsBy form address
CommandFitsBy form (marked s) = MarksFitBy form (some s)
CommandFitsBy form (new_token t) = TokenFits t × (length t.text ≤ 24576)
CommandFitsBy form end = ⊥

module _ (form : TapeForm) where
  pub inner_of : (c : Command) → CommandFitsBy form c → InnerBy form c
  inner_of (new_line address indent) h = (h.1, refl)
  inner_of (marked s) h = (h.0, refl)
  inner_of (new_token t) h = ((h.0.kind, omega arith), refl)
  inner_of end h = absurd h

  -- so its indent and its kind have a byte's room
  pub byte_of : (c : Command) → CommandFitsBy form c → ByteFits c
  byte_of (new_line address indent) h = omega arith
  byte_of (marked s) h = tt
  byte_of (new_token t) h = h.0.kind
  byte_of end h = tt

module _ {A : Type 0} {P Q : A → Type 0} (h : (x : A) → P x → Q x) where
  pub all_of : (xs : List A) → All P xs → All Q xs
  all_of [] k = tt
  all_of (x ∷ xs) k = (h x k.0, all_of xs k.1)

-- ---- a listing's tape

-- THE COMMANDS OF A LISTING'S TAPE ARE THOSE THAT IT IS WRITTEN AS, whatever stands behind it
pub written-places : (form : TapeForm) (at : ℕ) (lines : Listing) (marks : List Marks) (behind : List ℕ) → All (InnerBy form) (lines_put lines marks)
    → places_at form at (write_by form lines marks ++ behind) ≡ placed form at (lines_put lines marks)
unfolding write_by
written-places form at lines marks behind h =
    ap (places_at form at)
    (append_assoc (write_lines_by form lines marks) (write_command_by form end) behind
    ∙ ap (λ (r : List ℕ). r ++ (write_command_by form end ++ behind)) (sym (lines_written form lines marks)))
    ∙ read-all form behind at (lines_put lines marks) h

holdable-line : (lines : Listing) → All Holdable lines → All (OfLine (InnerBy old)) lines
holdable-line [] h = tt
holdable-line (l ∷ ls) h = (((h.0.address, refl), all_of (λ t k. (k, refl)) l.tokens h.0.tokens), holdable-line ls h.1)

holdable-marks : (marks : List Marks) → All HoldableMarks marks → All (OfMarks (InnerBy old)) marks
holdable-marks [] h = tt
holdable-marks (none ∷ ms) h = (tt, holdable-marks ms h.1)
holdable-marks (some s ∷ ms) h = ((h.0, refl), holdable-marks ms h.1)

-- what of a listing its bytes can hold, command by command
pub holdable_inner : (lines : Listing) (marks : List Marks) → All Holdable lines → All HoldableMarks marks → All (InnerBy old) (lines_put lines marks)
holdable_inner lines marks h k = all_put (InnerBy old) lines marks (holdable-line lines h) (holdable-marks marks k)

-- THE TAPE OF A LISTING HOLDS THAT LISTING, whatever stands behind it
pub held-write : (lines : Listing) (marks : List Marks) (behind : List ℕ) → All Holdable lines → All HoldableMarks marks → held (write lines marks ++ behind) ≡ lines
held-write lines marks behind h k =
    ap (λ (ps : List Place). lines_of (unplaced ps)) (written-places old 0 lines marks behind (holdable_inner lines marks h k))
    ∙ ap lines_of (unplaced-placed old 0 (lines_put lines marks))
    ∙ lines_back lines marks

-- ---- an accepted tape

fitting_tokens : (form : TapeForm) (ts : List Token) → All TokenFits ts → text_in ts ≤ 24576 → All (λ t. CommandFitsBy form (new_token t)) ts
fitting_tokens form [] h k = tt
fitting_tokens form (t ∷ ts) h k = ((h.0, omega arith), fitting_tokens form ts h.1 (omega arith))

fitting_lines : (form : TapeForm) (lines : Listing) → All LineFits lines → All (λ l. AddressFitsBy form l.address) lines → text lines ≤ 24576
    → All (OfLine (CommandFitsBy form)) lines
fitting_lines form [] h a k = tt
fitting_lines form (l ∷ ls) h a k =
    (((h.0.indent, a.0), fitting_tokens form l.tokens h.0.tokens (omega arith)), fitting_lines form ls h.1 a.1 (omega arith))

fitting_marks : (form : TapeForm) (marks : List Marks) → All (MarksFitBy form) marks → All (OfMarks (CommandFitsBy form)) marks
fitting_marks form [] h = tt
fitting_marks form (none ∷ ms) h = (tt, fitting_marks form ms h.1)
fitting_marks form (some s ∷ ms) h = (h.0, fitting_marks form ms h.1)

module _ (form : TapeForm) (tape : List ℕ) (lines : Listing) (bytes : Bytes tape) (reads : read_by form tape ≡ Passed lines) where
  abbrev its_marks : List Marks
  its_marks = marks_in_by form tape

  abbrev its_commands : List Command
  its_commands = lines_put lines its_marks

  each_put : All (CommandFitsBy form) its_commands
  each_put =
      let f = read-fits_by form tape lines bytes reads in
      let m = read-marks_fit_by form tape lines bytes reads in
      all_put (CommandFitsBy form) lines its_marks (fitting_lines form lines f.limits.each f.addresses f.limits.short_text) (fitting_marks form its_marks m.0)

  inner_put : All (InnerBy form) its_commands
  inner_put = all_of (inner_of form) its_commands each_put

  tape_put : flat_map (write_command_by form) its_commands ++ (write_command_by form end ++ []) ≡ drop (header form) tape
  unfolding write_by
  tape_put =
      (λ i. lines_written form lines its_marks i ++ append-nil (write_command_by form end) i)
      ∙ write-read_by form tape lines bytes reads

  -- WHERE THEY STAND
  pub accepted-places : places_by form tape ≡ placed form (header form) its_commands
  accepted-places = ap (places_at form (header form)) (sym tape_put) ∙ read-all form [] (header form) its_commands inner_put

  -- THE COMMANDS OF AN ACCEPTED TAPE ARE THOSE OF ITS LISTING AND ITS MARKS
  pub accepted-commands : commands_by form tape ≡ lines_put lines (marks_in_by form tape)
  accepted-commands = ap unplaced accepted-places ∙ unplaced-placed form (header form) its_commands

  -- EACH IS WITHIN THE LIMITS
  pub accepted_fit : All (CommandFitsBy form) (commands_by form tape)
  accepted_fit = rw accepted-commands each_put

  -- BEHIND WHAT THE FORM BEGINS WITH, THE TAPE IS THEIR BYTES AND FF
  pub accepted-bytes : drop (header form) tape ≡ flat_map (write_command_by form) (commands_by form tape) ++ write_command_by form end
  accepted-bytes =
      sym tape_put
      ∙ λ i. flat_map (write_command_by form) (sym accepted-commands i) ++ append-nil (write_command_by form end) i

  -- THEY HOLD THE LISTING THAT IS READ, AND ITS MARKS
  pub held-read_by : lines_of (commands_by form tape) ≡ lines
  held-read_by = ap lines_of accepted-commands ∙ lines_back lines its_marks

  pub marks-held_by : marks_of (commands_by form tape) ≡ marks_in_by form tape
  marks-held_by = ap marks_of accepted-commands ∙ marks_back lines its_marks (read-marks_fit_by form tape lines bytes reads).1

-- of the old form
module _ (tape : List ℕ) (lines : Listing) (bytes : Bytes tape) (reads : read tape ≡ Passed lines) where
  pub held-read : held tape ≡ lines
  held-read = held-read_by old tape lines bytes reads
