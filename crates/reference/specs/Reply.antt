-- One call: what it answers, and every lent byte afterwards. Assumes nothing.
use Rattle.std.specs.Prelude.{ℕ, List, [], ◌∷◌, ◌++◌, length, drop, replicate}
use Rattle.reference.specs.Control.{when◌then◌else◌, let_some◌else◌then◌}
use Rattle.reference.specs.Listing.{Listing}
use Rattle.reference.specs.Rules.{Rules}
use Rattle.reference.specs.Run.{run, finished, Tally, three, settled, Counts, counts}
use Rattle.reference.specs.Marks.{finished_marks}
use Rattle.reference.specs.Straight.{breaks}
use Rattle.reference.specs.Tape.{write}
use Rattle.reference.specs.Questions.{WORK, is_convention, is_edition, has_room_by}
use Rattle.reference.specs.Questions.{Answer, Refused, Passed, ask, let_passed◌then◌, read, marks_in}

-- the tape of the finished listing with its marks, and the counts of the run
pub record Cleaned : Type 0 where
  pub tape : List ℕ
  pub counts : Counts

abbrev pub Reply : Type 0
Reply = Answer Cleaned

-- M-106: "14, the first line that breaks the profile, place its line number from 0 [..], asked once the tape is read", where the profile
-- is asked for
unfoldable pub ask_profile : Rules → Listing → Reply → Reply
ask_profile rules lines r = when rules.profile then (let_some (breaks lines) else r then λ n. Refused 14 n) else r

-- the settings, the tape, and how many bytes the two work areas and the output have; before them the figure that the work areas are asked
-- for
unfoldable pub reply_by : ℕ → Rules → List ℕ → ℕ → ℕ → ℕ → Reply
reply_by figure rules tape work_a work_b output =
    ask (λ number. 0) ((1, is_convention rules) ∷ (9, is_edition rules) ∷ (2, has_room_by figure work_a work_b output) ∷ [])
    (let_passed (read tape) then λ lines.
    ask_profile rules lines
    (Passed (record {
      tape = write (finished rules lines) (finished_marks rules lines (marks_in tape));
      counts = counts rules (run rules lines);
    })))

abbrev pub reply : Rules → List ℕ → ℕ → ℕ → ℕ → Reply
reply = reply_by WORK

-- A refusal changes nothing lent. Otherwise the output is the new tape, and past that as before.
unfoldable pub output_after : Reply → List ℕ → List ℕ
output_after (Refused number place) output = output
output_after (Passed c) output = c.tape ++ drop (length c.tape) output

-- and the first 49,152 bytes (M-109) of each work area are zero, the rest as before
unfoldable pub work_after : Reply → List ℕ → List ℕ
work_after (Refused number place) work = work
work_after (Passed c) work = replicate WORK 0 ++ drop WORK work

-- What is told of the rounds, in numbers: the attempts of each of three rounds; or, where the run was to settle, the number of rounds and
-- the attempts in all. The numbers of the other setting are 0.
pub record Told : Type 0 where
  pub first : ℕ
  pub second : ℕ
  pub third : ℕ
  pub rounds : ℕ
  pub attempts : ℕ

unfoldable pub told : Tally → Told
told (three first second third) = record { first = first; second = second; third = third; rounds = 0; attempts = 0 }
told (settled rounds attempts) = record { first = 0; second = 0; third = 0; rounds = rounds; attempts = attempts }

-- the reply in numbers: number and place of a refusal and all counts zero; or 0, 0, the output's length and the counts
pub record Report : Type 0 where
  pub refusal : ℕ
  pub place : ℕ
  pub length : ℕ
  pub told : Told
  pub removed : ℕ
  pub cut : ℕ

unfoldable pub report : Reply → Report
report (Refused number place) =
    record { refusal = number; place = place; length = 0; told = told (three 0 0 0); removed = 0; cut = 0 }
report (Passed c) =
    record {
      refusal = 0;
      place = 0;
      length = length c.tape;
      told = told c.counts.tally;
      removed = c.counts.lines_removed;
      cut = c.counts.results_cut;
    }
