-- Sequences of calls on one store, and what is remembered under a name. Assumes nothing.
use Rattle.std.specs.Prelude.{ℕ, ◌≡◌, Bool, true, false, List, [], ◌∷◌, length}
use Rattle.std.proofs.Math.Option.{Option, none, some}
use Rattle.reference.specs.Control.{◌and◌, when◌then◌else◌}
use Rattle.reference.specs.Text.{◌≟◌}
use Rattle.reference.specs.Questions.{Answer, Refused, Passed}
use Rattle.tape.specs.Questions.{AcceptedTape}
use Rattle.states.specs.Store.{Store, Name, Tape, state}
use Rattle.states.specs.Calls.{opened, is_whole, save_reply, after_save, delete_reply, after_delete}

-- a call; of the output that a restore is lent, how many bytes it has
pub data Call : Type 0 where
  save : Name → Tape → Call
  restore : Name → ℕ → Call
  delete : Name → Call

-- the name that is given to a call has 8 bytes
abbrev pub Named : Call → Type 0
Named (save n tape) = length n ≡ 8
Named (restore n output) = length n ≡ 8
Named (delete n) = length n ≡ 8

abbrev pub EachNamed : List Call → Type 0
EachNamed [] = Unit {0}
EachNamed (c ∷ cs) = Named c × EachNamed cs

-- the store after a call, and after a sequence of calls
abbrev pub after_call : Call → Store → Store
after_call (save n tape) store = after_save (save_reply store n tape) store n tape
after_call (restore n output) store = store
after_call (delete n) store = after_delete (delete_reply store n) store

unfoldable pub after : List Call → Store → Store
after [] store = store
after (c ∷ cs) store = after cs (after_call c store)

-- whether a call did what it was asked to do
abbrev pub passes : {A : Type 0} → Answer A → Bool
passes (Refused number place) = false
passes (Passed a) = true

-- What is remembered under the name m after one call more, `before` having been: "the one last saved under that name"; a call that is
-- refused changes nothing.
unfoldable pub recall : Call → Store → Name → Option Tape → Option Tape
recall (save n tape) store m before = when passes (save_reply store n tape) and (n ≟ m) then some tape else before
recall (restore n output) store m before = before
recall (delete n) store m before = when passes (delete_reply store n) and (n ≟ m) then none else before

-- what is remembered under the name m after a sequence of calls: the tape last saved under it since it was last deleted
unfoldable pub remembered : List Call → Store → Name → Option Tape → Option Tape
remembered [] store m before = before
remembered (c ∷ cs) store m before = remembered cs (after_call c store) m (recall c store m before)

-- no call of the sequence saves or deletes that name
abbrev pub Untouched : Name → List Call → Type 0
Untouched m [] = Unit {0}
Untouched m (save n tape ∷ cs) = (n ≡ m → ⊥) × Untouched m cs
Untouched m (restore n output ∷ cs) = Untouched m cs
Untouched m (delete n ∷ cs) = (n ≡ m → ⊥) × Untouched m cs

-- a store that earns neither 2 nor 22
abbrev pub Sound : Store → Type 0
Sound store = opened store (is_whole store) ≡ Passed tt

-- each tape that is held passes the tape questions
abbrev pub HoldsAccepted : Store → Type 0
HoldsAccepted store = (m : Name) (tape : Tape) → state store m ≡ some tape → AcceptedTape tape
