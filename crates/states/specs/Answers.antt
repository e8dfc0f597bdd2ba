-- What the code's answers mean, and what the calls that write the store promise. Assumes nothing.
use Rattle.std.specs.Prelude.{ℕ, ◌≤◌, ◌<◌, ◌≡◌, length, Result}
use Rattle.reference.specs.Questions as Q
use Rattle.reference.specs.Questions.{Answer}
use Rattle.std.specs.Prelude as std
use Rattle.std.proofs.Math.Option.{Option}
use Rattle.states.specs.Store.{Store, Name, Tape, Entry, STORE}
use Rattle.states.specs.declared.cells.Entry as Code
use Rattle.states.specs.Entries.{entry_of}
use Rattle.states.specs.Calls.{Spot, replaced, taken, save_reply, after_save, delete_reply, after_delete}
use Rattle.answers.specs.declared.Refusal.{Refusal}
use Rattle.answers.specs.Refusals.{answered}
use Rattle.states.specs.declared.cells.Cells.{Cells}
use Rattle.states.specs.declared.calls.Placed.{Placed}
use Rattle.states.specs.declared.calls.Placed.TheVariants as P

abbrev pub cell_of : Result ℕ Refusal → Answer ℕ
cell_of = answered (λ i. i)

abbrev pub opened_of : Result Cells Refusal → Answer (Unit {0})
opened_of = answered (λ cells. tt)

abbrev pub spot : Placed → Spot
spot (P.Replaced i) = replaced i
spot (P.Taken i) = taken i

abbrev pub spot_of : Result Placed Refusal → Answer Spot
spot_of = answered spot

-- what the list has of a cell
abbrev pub listed_of : Result (std.Option Code.Entry) Refusal → Answer (Option Entry)
listed_of = answered entry_of

-- an answer that has no number of its own: saving and deleting answer 0
abbrev pub plain : {A : Type 0} → Answer A → Answer ℕ
plain (Q.Refused number place) = Q.Refused number place
plain (Q.Passed a) = Q.Passed 0

-- ---- what a call that writes the store promises: its answer, and every byte of the store afterwards

pub record Saves (store : Store) (n : Name) (tape : Tape) (store' : Store) (r : Answer ℕ) : Type 0 where
  pub reply_is : r ≡ plain (save_reply store n tape)
  pub store_is : store' ≡ after_save (save_reply store n tape) store n tape

pub record Deletes (store : Store) (n : Name) (store' : Store) (r : Answer ℕ) : Type 0 where
  pub reply_is : r ≡ plain (delete_reply store n)
  pub store_is : store' ≡ after_delete (delete_reply store n) store

-- ---- what the parts find

-- one of the eight cells of a store that is long enough
pub record InStore (store : Store) (i : ℕ) : Type 0 where
  pub below : i < 8
  pub whole : STORE ≤ length store
