-- The tape that a cleaning leaves, whatever stands behind it and however long it is: it holds at most 256 lines (`cleaned-few`), and their marks are those of
-- the finished lines (`cleaned-marks`). Assumes nothing.
use Prim.Native.Nat.{ℕ, ◌≤◌}
use native.Mathlib.Omega.{arith}
use mathlib.Core.Path.{◌≡◌, ap, ◌∙◌}
use mathlib.Core.List.{List, ◌++◌}
use lib.ListN.{length}
use Rattle.reference.specs.Listing.{Listing}
use Rattle.reference.specs.Rules.{Rules}
use Rattle.reference.specs.Spans.{Marks}
use Rattle.reference.specs.Run.{finished}
use Rattle.reference.specs.Marks.{finished_marks}
use Rattle.reference.specs.Tape.{old, write}
use Rattle.reference.specs.Questions.{Passed, read, marks_in}
use Rattle.reference.proofs.LittleEndian.{Bytes}
use Rattle.reference.proofs.Tapes.{read-limits}
use Rattle.reference.proofs.Marks.{marks-length}
use Rattle.tape.specs.Held.{commands, unplaced, held, lines_of, lines_put, marks_of}
use Rattle.tape.proofs.walk.Reading.{unplaced-placed}
use Rattle.tape.proofs.walk.Written.{lines_back, marks_back}
use Rattle.tape.proofs.walk.Accepted.{written-places, holdable_inner}
use Rattle.sources.proofs.Held.{finished-few}
use Rattle.sources.proofs.Unmarked.{holdable_cleaned, holdable_cleaned_marks}

module _ (rules : Rules) (tape : List ℕ) (input : Listing) (bytes : Bytes tape) (reads : read tape ≡ Passed input) (behind : List ℕ) where
  abbrev done : Listing
  done = finished rules input

  abbrev marks : List Marks
  marks = finished_marks rules input (marks_in tape)

  cleaned-commands : commands (write done marks ++ behind) ≡ lines_put done marks
  cleaned-commands =
      ap unplaced (written-places old 0 done marks behind
      (holdable_inner done marks (holdable_cleaned tape input bytes reads rules) (holdable_cleaned_marks tape input bytes reads rules)))
      ∙ unplaced-placed old 0 (lines_put done marks)

  -- A FLAG FOR EACH LINE THAT IT HOLDS HAS ROOM IN 256 BYTES
  pub cleaned-few : length (held (write done marks ++ behind)) ≤ 256
  cleaned-few =
      omega (arith, ap (λ cs. length (lines_of cs)) cleaned-commands, ap length (lines_back done marks), finished-few rules tape input reads, (read-limits tape input reads).few_lines)

  -- AND THEIR MARKS ARE THOSE OF THE FINISHED LINES
  pub cleaned-marks : marks_of (commands (write done marks ++ behind)) ≡ marks
  cleaned-marks = ap marks_of cleaned-commands ∙ marks_back done marks (marks-length rules input (marks_in tape))
