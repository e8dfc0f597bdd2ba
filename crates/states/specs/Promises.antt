-- What is proved of the calls and of sequences of them (proofs/States.antt, proofs/Histories.antt). Assumes nothing.
use Rattle.std.specs.Prelude.{ℕ, ◌≤◌, ◌<◌, ◌≡◌, List, length, drop}
use Rattle.std.proofs.Math.Option.{Option, none, some}
use Rattle.reference.specs.Listing.{Listing}
use Rattle.reference.specs.Rules.{Rules}
use Rattle.reference.specs.Demand.{Demand3}
use Rattle.reference.specs.Questions.{Answer, Refused, Passed, read}
use Rattle.tape.specs.Questions.{AcceptedTape}
use Rattle.states.specs.Store.{Store, Name, Tape, STORE, ROOM, cell, first_byte, state}
use Rattle.states.specs.Calls.{restore_reply}
use Rattle.states.specs.Histories.{Call, after, remembered, Sound, HoldsAccepted}

-- a store in which every cell is free
pub record Fresh (store : Store) : Type 0 where
  pub whole : STORE ≤ length store
  pub free : (i : ℕ) → i < 8 → first_byte (cell store i) ≡ 0

-- saved: that name is that tape, and every other name is as before; the store earns neither 2 nor 22, and is as before past its eight cells
pub record Saved (store : Store) (n : Name) (tape : Tape) (store' : Store) : Type 0 where
  pub sound : Sound store'
  pub holds : state store' n ≡ some tape
  pub others : (m : Name) → (m ≡ n → ⊥) → state store' m ≡ state store m
  pub long : length store' ≡ length store
  pub behind : drop STORE store' ≡ drop STORE store
  pub accepted : AcceptedTape tape

-- deleted: that name is not held, and every other name is as before
pub record Deleted (store : Store) (n : Name) (store' : Store) : Type 0 where
  pub sound : Sound store'
  pub gone : state store' n ≡ none
  pub others : (m : Name) → (m ≡ n → ⊥) → state store' m ≡ state store m
  pub long : length store' ≡ length store
  pub behind : drop STORE store' ≡ drop STORE store

-- the answer of coming back to what is held under a name, if anything is
abbrev pub come_back : Option Tape → Answer Tape
come_back none = Refused 20 0
come_back (some tape) = Passed tape

-- THE HISTORY of a store that earned neither 2 nor 22, after any sequence of calls
pub record History (store : Store) (calls : List Call) : Type 0 where
  -- it never earns 22
  pub sound : Sound (after calls store)
  -- every name is what is remembered under it
  pub states : (m : Name) → state (after calls store) m ≡ remembered calls store m (state store m)
  -- so coming back gives the tape last saved under that name since it was last deleted, or 20
  pub comes_back : (m : Name) (output : ℕ) → ROOM ≤ output
      → restore_reply (after calls store) m output ≡ come_back (remembered calls store m (state store m))
  -- a tape that is held is an accepted one, if those at the beginning are
  pub accepted : HoldsAccepted store → HoldsAccepted (after calls store)
  -- a longer store's bytes past the eight cells are as before, and so is its length
  pub long : length (after calls store) ≡ length store
  pub behind : drop STORE (after calls store) ≡ drop STORE store

-- "Guarantees about cleaning count from the state returned to": what comes back is accepted, and demand 3 holds of its cleaning.
pub record Returned (tape : Tape) : Type 0 where
  pub listing : Listing
  pub reads : read tape ≡ Passed listing
  pub demand3 : (rules : Rules) → Demand3 rules listing
