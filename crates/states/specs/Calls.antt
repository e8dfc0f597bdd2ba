-- Request M-111's three calls: what each answers, and every byte of the store afterwards (of the output: `output_after`, crate answers).
-- Assumes nothing.
use Rattle.std.specs.Prelude.{ℕ, ◌+◌, ◌*◌, Bool, List, [], ◌∷◌, ◌++◌, leb, length, set}
use Rattle.reference.specs.Control.{◌and◌, let_some◌else◌then◌}
use Rattle.reference.specs.Tape.{to_le_bytes}
use Rattle.reference.specs.Questions.{Answer, Refused, Passed, ask, let_passed◌then◌, read}
use Rattle.tape.specs.Bytes.{put}
use Rattle.std.proofs.Math.Option.{Option}
use Rattle.states.specs.Store.{Store, Name, Tape, Entry, CELL, STORE, ROOM, cell, tape_of, named, free_cell, wrong_cell, entry_at}

-- 2: "A shorter store, or on coming back an output below 65,523 bytes, earns 2"; then 22, at the cell's number, "asked just after 2"
unfoldable pub opened : Store → Bool → Answer (Unit {0})
opened store room = ask (λ number. 0) ((2, room) ∷ []) (let_some (wrong_cell store) else Passed tt then λ i. Refused 22 i)

unfoldable pub is_whole : Store → Bool
is_whole store = leb STORE (length store)

-- the cell that is held under a name; 20: "coming back to or deleting a name not held, place 0"
unfoldable pub held_cell : Store → Bool → Name → Answer ℕ
held_cell store room n =
    let_passed (opened store room) then λ _.
    let_some (named store 8 n) else Refused 20 0 then λ i.
    Passed i

-- what the list has of cell i; first the questions of the store
unfoldable pub list_reply : Store → ℕ → Answer (Option Entry)
list_reply store i = let_passed (opened store (is_whole store)) then λ _. Passed (entry_at store i)

-- ---- saving

-- the cell that a tape is saved in: the one that is held under the name, or the first free one
pub data Spot : Type 0 where
  replaced : ℕ → Spot
  taken : ℕ → Spot

-- 21: "saving a new name while eight are held, place 0"
unfoldable pub spot_for : Store → Name → Answer Spot
spot_for store n =
    let_some (named store 8 n) else (let_some (free_cell store) else Refused 21 0 then λ i. Passed (taken i)) then λ i.
    Passed (replaced i)

-- "A tape is saved only if the tape questions pass it"; 21 is asked "after the tape questions".
unfoldable pub save_reply : Store → Name → Tape → Answer Spot
save_reply store n tape =
    let_passed (opened store (is_whole store)) then λ _.
    let_passed (read tape) then λ _.
    spot_for store n

-- the length and the tape, as they stand in a cell
abbrev pub body : Tape → List ℕ
body tape = to_le_bytes 4 (length tape) ++ tape

-- "Saving under an existing name replaces it; a new name takes the first free cell." "No other store byte changes."
unfoldable pub saved_in : Store → Name → Tape → Spot → Store
saved_in store n tape (replaced i) = put store (i * CELL + 9) (body tape)
saved_in store n tape (taken i) = put store (i * CELL) (1 ∷ n ++ body tape)

unfoldable pub after_save : Answer Spot → Store → Name → Tape → Store
after_save (Refused number place) store n tape = store
after_save (Passed spot) store n tape = saved_in store n tape spot

-- ---- deleting

-- the cell that is given up
abbrev pub delete_reply : Store → Name → Answer ℕ
delete_reply store n = held_cell store (is_whole store) n

-- "deleting sets only its cell's first byte to 0"
unfoldable pub after_delete : Answer ℕ → Store → Store
after_delete (Refused number place) store = store
after_delete (Passed i) store = set store (i * CELL) 0

-- ---- coming back

-- The tape, the output having so many bytes: "Coming back copies the held tape as it stands, unasked". The store is not lent for writing.
unfoldable pub restore_reply : Store → Name → ℕ → Answer Tape
restore_reply store n output =
    let_passed (held_cell store (is_whole store and leb ROOM output) n) then λ i.
    Passed (tape_of (cell store i))
