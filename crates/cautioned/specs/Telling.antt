-- What the parts of the call find and leave, once the tape has passed all questions and stands in the tables. Assumes nothing.
use Rattle.std.specs.Prelude.{ℕ, ◌≤◌, ◌≡◌, List, length}
use Rattle.reference.specs.Questions.{WORK, Passed}
use Rattle.tape.specs.declared.questions.Totals.{Totals}
use Rattle.clean.specs.declared.tabled.Tables.{Tables}
use Rattle.clean.specs.Tabled.{Tabled}
use Rattle.cautioned.specs.Replies.{OUTPUT, Leaves}

-- the listing of the tape in the tables, and room to work and for the sets
pub record Tellable (tape : List ℕ) (own : Tables) (t : Totals) (area area2 out : List ℕ) : Type 0 where
  pub loaded : Tabled tape own t
  pub first_text : WORK ≤ length area
  pub second_text : WORK ≤ length area2
  pub room : OUTPUT ≤ length out

-- what the questions have shown, and the listing in the tables
pub record Cautionable (tape : List ℕ) (own : Tables) (t : Totals) (work_a work_b out : List ℕ) : Type 0 where
  pub loaded : Tabled tape own t
  pub room_a : WORK ≤ length work_a
  pub room_b : WORK ≤ length work_b
  pub room : OUTPUT ≤ length out

-- the bytes are told, and every lent byte afterwards is that of their answer
pub record Finishes (bytes work_a work_b out : List ℕ) (work-a' work-b' out' : List ℕ) (n : ℕ) : Type 0 where
  pub length_is : n ≡ length bytes
  pub leaves : Leaves (Passed bytes) work_a work_b out work-a' work-b' out'
