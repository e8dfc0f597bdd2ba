-- What the code's values mean. Assumes nothing.
use Rattle.std.specs.Prelude.{ℕ, ◌+◌, ◌-◌, ◌≤◌, ◌<◌, ◌≡◌, Bool, eqb, length, get_or, set}
use mathlib.Core.List.{List, [], map}
use Rattle.std.proofs.Math.Option.{Option, none, some}
use Rattle.reference.specs.Control.{when◌then◌else◌}
use Rattle.reference.specs.Lists.{is_some}
use Rattle.reference.specs.Listing.{Listing}
use Rattle.reference.specs.Rules.{Rules}
use Rattle.reference.specs.Spans.{Marks}
use Rattle.reference.specs.Claim.{one_if}
use Rattle.reference.specs.Run.{run, attempts_of, finished}
use Rattle.reference.specs.Marks.{comes_to, finished_marks}
use Rattle.reference.specs.Tape as Tape
use Rattle.reference.specs.Tape.{write_command}
use Rattle.reference.specs.Questions as Q
use Rattle.reference.specs.Questions.{read, marks_in}
use Rattle.reference.specs.Reply as R
use Rattle.reference.specs.Reply.{reply}
use Rattle.answers.specs.Answers.{measured, output_after, Writes}
use Rattle.tape.specs.Bytes.{Puts}
use Rattle.sources.specs.Only.{only_tape, Lent, came_copy, came_cleaning, came_reply}

-- ---- lines

-- how many lines have begun with a command, n before it
abbrev pub lines_after : Tape.Command → ℕ → ℕ
lines_after (Tape.new_line address indent) n = n + 1
lines_after (Tape.marked s) n = n
lines_after (Tape.new_token t) n = n
lines_after Tape.end n = n

-- ---- one command of the copy

-- the address of a line of the copy: line k is the picked one
abbrev pub address_for : Bool → Option ℕ
address_for picked = when picked then some 0 else none

-- the bytes of a command in the copy; `picked` says that the line that it begins is line k
unfoldable pub copied : Bool → Tape.Command → List ℕ
copied picked (Tape.new_line address indent) = write_command (Tape.new_line (address_for picked) indent)
copied picked (Tape.marked s) = []
copied picked (Tape.new_token t) = write_command (Tape.new_token t)
copied picked Tape.end = write_command Tape.end

-- what is written of an accepted tape
abbrev pub CopyOf : ℕ → List ℕ → List ℕ → List ℕ → ℕ → Type 0
CopyOf k tape out out' end = (lines : Listing) → read tape ≡ Q.Passed lines → Puts out 0 (only_tape k lines) out' end

-- ---- the walk over a cleaned tape

-- 1 where a line has marks, else 0
unfoldable pub flag_of : Marks → ℕ
flag_of m = when is_some m then 1 else 0

-- the flag of the last of n lines set
unfoldable pub marked_last : ℕ → List ℕ → List ℕ
marked_last n flags = when eqb n 0 then flags else set flags (n - 1) 1

-- the flags with one command more, n lines having begun before it: a line begins without marks
abbrev pub flags_after : Tape.Command → ℕ → List ℕ → List ℕ
flags_after (Tape.new_line address indent) n flags = set flags n 0
flags_after (Tape.marked s) n flags = marked_last n flags
flags_after (Tape.new_token t) n flags = flags
flags_after Tape.end n flags = flags

-- there is room for them
abbrev pub FlagFits : Tape.Command → ℕ → List ℕ → Type 0
FlagFits (Tape.new_line address indent) n flags = n < length flags
FlagFits (Tape.marked s) n flags = n ≤ length flags
FlagFits (Tape.new_token t) n flags = Unit {0}
FlagFits Tape.end n flags = Unit {0}

pub record Flags (c : Tape.Command) (n : ℕ) (flags flags' : List ℕ) (r : ℕ) : Type 0 where
  pub flags_are : flags' ≡ flags_after c n flags
  pub lines_are : r ≡ lines_after c n

-- ---- the cleaning of the copy, and its flags

-- a refusal of the cleaning, or some bytes
abbrev pub in_place_of : R.Reply → List ℕ → Q.Answer (List ℕ)
in_place_of (Q.Refused number place) bytes = Q.Refused number place
in_place_of (Q.Passed c) bytes = Q.Passed bytes

-- Every lent byte after the cleaning of an accepted tape, and the flags of the finished lines: 1 where a line has marks, else 0.
pub record FlagsCleaned (rules : Rules) (tape work_a work_b out flags : List ℕ) (work-a' work-b' out' flags' : List ℕ) (r : Q.Answer ℕ)
    : Type 0 where
  pub output_is : out' ≡ R.output_after (reply rules tape (length work_a) (length work_b) (length out)) out
  pub work_a_is : work-a' ≡ R.work_after (reply rules tape (length work_a) (length work_b) (length out)) work_a
  pub work_b_is : work-b' ≡ R.work_after (reply rules tape (length work_a) (length work_b) (length out)) work_b
  pub writes : (lines : Listing) → read tape ≡ Q.Passed lines
      → Writes (in_place_of (reply rules tape (length work_a) (length work_b) (length out))
      (map flag_of (finished_marks rules lines (marks_in tape))))
      flags
      flags'
      r

-- ---- the call

abbrev pub lent_as : List ℕ → List ℕ → List ℕ → List ℕ → List ℕ → Lent
lent_as copy work_a work_b out flags = record { copy = copy; work_a = work_a; work_b = work_b; output = out; flags = flags }

-- what it leaves: a refusal changes nothing lent, but that of 14, which leaves the copy
unfoldable pub lent_after : Rules → ℕ → List ℕ → Lent → Lent
lent_after rules k tape lent =
    record {
      copy = output_after (came_copy rules k tape lent) lent.copy;
      work_a = R.work_after (came_cleaning rules k tape lent) lent.work_a;
      work_b = R.work_after (came_cleaning rules k tape lent) lent.work_b;
      output = R.output_after (came_cleaning rules k tape lent) lent.output;
      flags = output_after (came_reply rules k tape lent) lent.flags;
    }

-- Its answer, and every lent byte afterwards. Where it is not refused, it answers how many lines are finished, and the flag of the finished
-- line q is 1 exactly if line k comes into it.
pub record CameInto (rules : Rules) (k : ℕ) (tape : List ℕ) (lent lent' : Lent) (r : Q.Answer ℕ) : Type 0 where
  pub reply_is : r ≡ measured (came_reply rules k tape lent)
  pub lent_is : lent' ≡ lent_after rules k tape lent
  pub told : (n : ℕ) → r ≡ Q.Passed n → (input : Listing) → read tape ≡ Q.Passed input
      → (n ≡ length (finished rules input))
      × ((q : ℕ) → k < length input → q < n → get_or lent'.flags q 0 ≡ one_if (comes_to (attempts_of (run rules input)) k q))
