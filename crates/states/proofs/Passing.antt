-- What an answer tells that was not refused, and what each call promises then. Assumes nothing.
use Prim.Native.Nat.{ℕ, ◌*◌, ◌≤◌, ◌<◌}
use native.Mathlib.Omega.{arith}
use mathlib.Core.Path.{◌≡◌, sym, ap, ◌∙◌}
use mathlib.Core.Bool.{Bool, true, false}
use mathlib.Core.List.{List, [], ◌∷◌, ◌++◌}
use mathlib.Core.Option.{none, some}
use lib.Dec.{leb}
use lib.ListN.{length, drop, set}
use borrow.Author.Tests.{leb-true, ltb-false}
use Rattle.reference.specs.Control.{◌and◌}
use Rattle.reference.specs.Listing.{Listing}
use Rattle.reference.specs.Questions.{Answer, Refused, Passed, let_passed◌then◌, read}
use Rattle.reference.proofs.Cases.{by-some, both, neither}
use Rattle.reference.proofs.Reading.{refused_passed, passed_inj, ask_passed, by_passed}
use Rattle.reference.proofs.Tapes.{accepted-length}
use Rattle.laws.proofs.Scans.{and_true}
use Rattle.states.specs.Store.{Store, Name, Tape, CELL, STORE, ROOM, cell}
use Rattle.states.specs.Store.{length_of, tape_of, is_held, holds, named, free_cell, is_wrong, wrong_cell}
use Rattle.states.specs.Calls.{opened, is_whole, held_cell, Spot, replaced, taken}
use Rattle.states.specs.Calls.{spot_for, save_reply, saved_in, after_save, after_delete, restore_reply}
use Rattle.answers.specs.Answers.{Writes}
use Rattle.states.specs.Answers.{Saves, Deletes, InStore}
use Rattle.states.proofs.Firsts.{first_some, first_none}

-- An accepted tape fits a cell: all that is used of the limits on tapes.
pub accepted-fits : (tape : Tape) (lines : Listing) → read tape ≡ Passed lines → length tape ≤ ROOM
unfolding ROOM
accepted-fits tape lines e = omega (arith, accepted-length tape lines e)

-- ---- 2 and 22

module _ (store : Store) where
  pub opened_passed : (room : Bool) → opened store room ≡ Passed tt → (room ≡ true) × (wrong_cell store ≡ none)
  unfolding opened
  opened_passed room e =
      let r = ask_passed (λ number. 0) ((2, room) ∷ []) _ tt e in (
        r.0.0,
        by-some (λ (a : Answer (Unit {0})). a ≡ Passed tt → wrong_cell store ≡ none) (λ n f. n) (λ i s f. absurd (refused_passed f)) r.1,
      )

  pub whole_long : is_whole store ≡ true → STORE ≤ length store
  unfolding is_whole
  whole_long e = leb-true _ _ e

  pub named-below : (n : Name) {i : ℕ} → named store 8 n ≡ some i → i < 8
  named-below n e = omega (arith, (first_some _ 8 0 e).below)

  pub named-holds : (n : Name) {i : ℕ} → named store 8 n ≡ some i → holds n (cell store i) ≡ true
  named-holds n e = (first_some _ 8 0 e).passes

  -- a cell that 22 does not find, and that is held, has a length that fits
  pub held-short : (i : ℕ) → is_wrong store i ≡ false → is_held (cell store i) ≡ true → length_of (cell store i) ≤ ROOM
  unfolding is_wrong
  held-short i e h = ltb-false _ _ (neither (sym (and_true _ h) ∙ (neither e).1)).0

  pub named-short : (n : Name) {i : ℕ} → wrong_cell store ≡ none → named store 8 n ≡ some i → length_of (cell store i) ≤ ROOM
  unfolding holds
  named-short n {i} w e =
      held-short i (first_none _ 8 0 w i (omega arith) (omega (arith, named-below n e))) (both (named-holds n e)).0

  module _ (n : Name) (room : Bool) where
    pub held_passed : {i : ℕ} → held_cell store room n ≡ Passed i → (opened store room ≡ Passed tt) × (named store 8 n ≡ some i)
    unfolding held_cell
    held_passed {i} =
        by_passed (λ (a : Answer ℕ). a ≡ Passed i → (opened store room ≡ Passed tt) × (named store 8 n ≡ some i))
        (λ number place u e. absurd (refused_passed e))
        (λ x u.
        by-some (λ (a : Answer ℕ). a ≡ Passed i → (opened store room ≡ Passed tt) × (named store 8 n ≡ some i))
        (λ z e. absurd (refused_passed e))
        (λ j s e. (u, s ∙ ap some (passed_inj e))))

-- ---- saving

-- what is known where a tape is saved in the cell i
pub record Saving (store : Store) (tape : Tape) (i : ℕ) : Type 0 where
  pub opens : opened store (is_whole store) ≡ Passed tt
  pub listing : Listing
  pub reads : read tape ≡ Passed listing
  pub below : i < 8

module _ (store : Store) (n : Name) (tape : Tape) where
  save_passed : {spot : Spot} → save_reply store n tape ≡ Passed spot
      → (opened store (is_whole store) ≡ Passed tt) × (lines : Listing) × (read tape ≡ Passed lines) × (spot_for store n ≡ Passed spot)
  unfolding save_reply
  save_passed {spot} =
      by_passed
      (λ (a : Answer Spot). a ≡ Passed spot → (opened store (is_whole store) ≡ Passed tt) × (lines : Listing) × (read tape ≡ Passed lines)
      × (spot_for store n ≡ Passed spot))
      (λ number place u e. absurd (refused_passed e))
      (λ x u.
      by_passed
      (λ (a : Answer Spot). a ≡ Passed spot → (opened store (is_whole store) ≡ Passed tt) × (lines : Listing) × (read tape ≡ Passed lines)
      × (spot_for store n ≡ Passed spot))
      (λ number place v e. absurd (refused_passed e))
      (λ lines v e. (u, lines, v, e)))

  spot_replaced : {i : ℕ} → spot_for store n ≡ Passed (replaced i) → named store 8 n ≡ some i
  unfolding spot_for
  spot_replaced {i} =
      by-some (λ (a : Answer Spot). a ≡ Passed (replaced i) → named store 8 n ≡ some i)
      (λ z.
      by-some (λ (a : Answer Spot). a ≡ Passed (replaced i) → named store 8 n ≡ some i)
      (λ y e. absurd (refused_passed e))
      (λ j s e. (let q : ◌≡◌ {A = ℕ} 0 1 = cc in absurd (omega arith))))
      (λ j s e. (let q : j ≡ i = cc in s ∙ ap some q))

  spot_taken : {i : ℕ} → spot_for store n ≡ Passed (taken i) → (named store 8 n ≡ none) × (free_cell store ≡ some i)
  unfolding spot_for
  spot_taken {i} =
      by-some (λ (a : Answer Spot). a ≡ Passed (taken i) → (named store 8 n ≡ none) × (free_cell store ≡ some i))
      (λ z.
      by-some (λ (a : Answer Spot). a ≡ Passed (taken i) → (named store 8 n ≡ none) × (free_cell store ≡ some i))
      (λ y e. absurd (refused_passed e))
      (λ j s e. (let q : j ≡ i = cc in (z, s ∙ ap some q))))
      (λ j s e. (let q : ◌≡◌ {A = ℕ} 0 1 = cc in absurd (omega arith)))

  pub saves_replaced : {i : ℕ} → save_reply store n tape ≡ Passed (replaced i) → Saving store tape i × (named store 8 n ≡ some i)
  saves_replaced e =
      let r = save_passed e in
      let s = spot_replaced r.3 in
      (record { opens = r.0; listing = r.1; reads = r.2; below = named-below store n s }, s)

  pub saves_taken : {i : ℕ} → save_reply store n tape ≡ Passed (taken i)
      → Saving store tape i × (named store 8 n ≡ none) × (free_cell store ≡ some i)
  saves_taken e =
      let r = save_passed e in
      let s = spot_taken r.3 in
      (record { opens = r.0; listing = r.1; reads = r.2; below = omega (arith, (first_some _ 8 0 s.1).below) }, s.0, s.1)

  -- ---- what `save` promises

  pub saving_ready : {i : ℕ} → Saving store tape i → InStore store i × (length tape ≤ ROOM)
  saving_ready s = (
    record { below = s.below; whole = whole_long store (opened_passed store (is_whole store) s.opens).0 },
    accepted-fits tape s.listing s.reads,
  )

  pub save_refused : {number place : ℕ} → Refused number place ≡ save_reply store n tape → Saves store n tape store (Refused number place)
  unfolding after_save
  save_refused e = record { reply_is = rw (sym e); store_is = rw (sym e) }

  pub save-done : {spot : Spot} {store' : Store} → Passed spot ≡ save_reply store n tape → store' ≡ saved_in store n tape spot
      → Saves store n tape store' (Passed 0)
  unfolding after_save
  save-done e f = record { reply_is = rw (sym e); store_is = rw (sym e) f }

-- ---- what `delete` promises

module _ (store : Store) (n : Name) {room : Bool} (r : room ≡ is_whole store) where
  pub delete_refused : {number place : ℕ} → Refused number place ≡ held_cell store room n → Deletes store n store (Refused number place)
  unfolding after_delete
  delete_refused {number} {place} e =
      let f : held_cell store (is_whole store) n ≡ Refused number place = rw r at (sym e) in record { reply_is = rw f; store_is = rw f }

  pub delete_ready : {i : ℕ} → Passed i ≡ held_cell store room n → InStore store i
  delete_ready e =
      let h = held_passed store n room (sym e) in
      record { below = named-below store n h.1; whole = whole_long store (sym r ∙ (opened_passed store room h.0).0) }

  pub delete-done : {i at : ℕ} {store' : Store} → Passed i ≡ held_cell store room n → at ≡ i * CELL → store' ≡ set store at 0
      → Deletes store n store' (Passed 0)
  unfolding after_delete
  delete-done {i} e a b =
      let f : held_cell store (is_whole store) n ≡ Passed i = rw r at (sym e) in
      record { reply_is = rw f; store_is = rw (f, ← a) b }

-- ---- what `restore` promises

module _ (store : Store) (n : Name) (out : List ℕ) {room : Bool} (r : room ≡ (is_whole store and leb ROOM (length out))) where
  pub restore_refused : {number place : ℕ} → Refused number place ≡ held_cell store room n
      → Writes (restore_reply store n (length out)) out out (Refused number place)
  unfolding restore_reply let_passed◌then◌
  restore_refused {number} {place} e =
      let f : held_cell store (is_whole store and leb ROOM (length out)) n ≡ Refused number place = rw r at (sym e) in
      record { reply_is = rw f; output_is = rw f }

  pub restore_ready : {i : ℕ} → Passed i ≡ held_cell store room n → InStore store i × (length_of (cell store i) ≤ ROOM)
      × (ROOM ≤ length out)
  restore_ready {i} e =
      let h = held_passed store n room (sym e) in
      let o = opened_passed store room h.0 in
      let b = both (sym r ∙ o.0) in (
        record { below = named-below store n h.1; whole = whole_long store b.0 },
        named-short store n o.1 h.1,
        leb-true _ _ b.1,
      )

  pub restore-done : {i m : ℕ} {out' : List ℕ} → Passed i ≡ held_cell store room n → m ≡ length (tape_of (cell store i))
      → out' ≡ tape_of (cell store i) ++ drop m out → Writes (restore_reply store n (length out)) out out' (Passed m)
  unfolding restore_reply let_passed◌then◌
  restore-done {i} e l o =
      let f : held_cell store (is_whole store and leb ROOM (length out)) n ≡ Passed i = rw r at (sym e) in
      record { reply_is = rw f (ap Passed l); output_is = rw f (o ∙ rw l) }
