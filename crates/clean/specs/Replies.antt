-- What the code's replies mean, and what a call promises. Assumes nothing.
use Rattle.std.specs.Prelude.{ℕ, ◌≡◌, true, List, length, Result, Ok, Err}
use Rattle.std.proofs.Math.Option.{Option, none}
use Rattle.reference.specs.Control.{when◌then◌else◌}
use Rattle.reference.specs.Rules.{Rules}
use Rattle.reference.specs.Listing.{Listing}
use Rattle.reference.specs.Run.{run, finished, three, Counts, counts}
use Rattle.reference.specs.Marks.{finished_marks}
use Rattle.reference.specs.Tape.{write}
use Rattle.reference.specs.Questions as Q
use Rattle.reference.specs.Questions.{Answer, Passed, read, marks_in}
use Rattle.reference.specs.Straight.{breaks}
use Rattle.reference.specs.Demand.{Demand3}
use Rattle.reference.specs.Reply as R
use Rattle.straight.specs.Meaning.{Meaning}
use Rattle.rounds.specs.Runs.{tally_of}
use Rattle.clean.specs.declared.told.Told.{Told}
use Rattle.clean.specs.declared.cleaning.Finished.{Finished}
use Rattle.answers.specs.declared.Refusal.{Refusal}
use Rattle.answers.specs.Refusals.{number_of, answered}

-- ---- the reply in numbers

abbrev pub told_of : Told → R.Told
told_of t = record { first = t.first; second = t.second; third = t.third; rounds = t.rounds; attempts = t.attempts }

abbrev pub finished_report : Finished → R.Report
finished_report f =
    record {
      refusal = 0;
      place = 0;
      length = f.length;
      told = R.told (tally_of f.tally);
      removed = f.removed;
      cut = f.cut;
    }

abbrev pub report_of : Result Finished Refusal → R.Report
report_of (Err r) = record { refusal = number_of r.reason; place = r.place; length = 0; told = R.told (three 0 0 0); removed = 0; cut = 0 }
report_of (Ok f) = finished_report f

-- ---- the reply as the definition's answer: which of the two it is, and its numbers

pub record Summary : Type 0 where
  pub length : ℕ
  pub counts : Counts

abbrev pub summary_of : Finished → Summary
summary_of f =
    record {
      length = f.length;
      counts = record { tally = tally_of f.tally; lines_removed = f.removed; results_cut = f.cut };
    }

abbrev pub answer_of : Result Finished Refusal → Answer Summary
answer_of = answered summary_of

abbrev pub summary : R.Reply → Answer Summary
summary (Q.Refused number place) = Q.Refused number place
summary (Q.Passed c) = Q.Passed (record { length = length c.tape; counts = c.counts })

-- ---- a call

-- the report, and every lent byte afterwards, are those of a reply of the definition
pub record Leaves (reply : R.Reply) (work_a work_b out : List ℕ) (work-a' work-b' out' : List ℕ) (report : R.Report) : Type 0 where
  pub report_is : report ≡ R.report reply
  pub output_is : out' ≡ R.output_after reply out
  pub work_a_is : work-a' ≡ R.work_after reply work_a
  pub work_b_is : work-b' ≡ R.work_after reply work_b

-- One call: its report and every lent byte afterwards are the definition's, on every tape and all lengths; and demand 3 holds of the run of
-- the listing that it cleaned. M-106: where the profile is asked for and the call is not refused, the cleaned listing returns for all
-- starting register values what the input returns.
pub record Cleans (rules : Rules) (tape work_a work_b out : List ℕ) (work-a' work-b' out' : List ℕ) (report : R.Report) : Type 0 where
  pub leaves : Leaves (R.reply rules tape (length work_a) (length work_b) (length out)) work_a work_b out work-a' work-b' out' report
  pub demand3 : (input : Listing) → read tape ≡ Passed input → Demand3 rules input
  pub means : rules.profile ≡ true → (c : R.Cleaned) → R.reply rules tape (length work_a) (length work_b) (length out) ≡ Passed c
      → (input : Listing) → read tape ≡ Passed input → Meaning rules input

-- the definition's reply to the tape of a listing
abbrev pub cleaned : Rules → List ℕ → Listing → R.Reply
cleaned rules tape input =
    Passed (record {
      tape = write (finished rules input) (finished_marks rules input (marks_in tape));
      counts = counts rules
          (run rules input);
    })

-- M-106: the first line that breaks the profile, where it is asked for
abbrev pub outside : Rules → Listing → Option ℕ
outside rules input = when rules.profile then breaks input else none
