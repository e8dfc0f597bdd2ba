-- What the parts of a cleaning find and leave, once the tape has passed all questions and stands in the tables. Assumes nothing.
use Rattle.std.specs.Prelude.{ℕ, ◌≤◌, ◌≡◌, List, length}
use Rattle.reference.specs.Questions.{WORK, OUTPUT, Passed}
use Rattle.reference.specs.Reply as R
use Rattle.tape.specs.declared.questions.Totals.{Totals}
use Rattle.clean.specs.declared.cleaning.Finished.{Finished}
use Rattle.clean.specs.declared.tabled.Tables.{Tables}
use Rattle.clean.specs.Tabled.{Tabled}
use Rattle.clean.specs.Replies.{summary_of, summary}

-- the listing of the tape in the tables, and room to work and for the output
pub record Writable (tape : List ℕ) (own : Tables) (t : Totals) (area area2 out : List ℕ) : Type 0 where
  pub loaded : Tabled tape own t
  pub first_text : WORK ≤ length area
  pub second_text : WORK ≤ length area2
  pub room : OUTPUT ≤ length out

-- what is told, and the output, are those of a reply of the definition
pub record ReplyWritten (reply : R.Reply) (out out' : List ℕ) (f : Finished) : Type 0 where
  pub summary_is : Passed (summary_of f) ≡ summary reply
  pub output_is : out' ≡ R.output_after reply out

-- what the questions have shown, and the listing in the tables
pub record Cleanable (tape : List ℕ) (own : Tables) (t : Totals) (work_a work_b out : List ℕ) : Type 0 where
  pub loaded : Tabled tape own t
  pub room_a : WORK ≤ length work_a
  pub room_b : WORK ≤ length work_b
  pub room : OUTPUT ≤ length out

-- what is told, and every lent byte afterwards, are those of a reply of the definition
pub record Finishes (reply : R.Reply) (work_a work_b out : List ℕ) (work-a' work-b' out' : List ℕ) (f : Finished) : Type 0 where
  pub summary_is : Passed (summary_of f) ≡ summary reply
  pub output_is : out' ≡ R.output_after reply out
  pub work_a_is : work-a' ≡ R.work_after reply work_a
  pub work_b_is : work-b' ≡ R.work_after reply work_b
