-- Which answer a call gives, by what is held: 20 and 21 say what they are said to say. Assumes nothing.
use Prim.Native.Nat.{ℕ, ◌<◌}
use native.Mathlib.Omega.{arith}
use mathlib.Core.Path.{◌≡◌, refl, sym, ◌∙◌}
use mathlib.Core.Option.{Option, none, some}
use lib.ListN.{length, drop, length-drop}
use lib.Seq.{length-take-le}
use borrow.Author.Tests.{eq-eqb, ne_eqb}
use Rattle.reference.specs.Listing.{Listing}
use Rattle.reference.specs.Questions.{Refused, Passed, read}
use Rattle.reference.proofs.Cases.{by-some, none-some, true-false}
use Rattle.states.specs.Store.{Store, Name, Tape, cell, first_byte, length_of, tape_of, named, free_cell, state}
use Rattle.states.specs.Calls.{is_whole, replaced, taken, save_reply, delete_reply}
use Rattle.states.specs.Histories.{Sound}
use Rattle.states.proofs.Firsts.{first_none, none_first}
use Rattle.states.proofs.Contents.{cell-length, room_is}
use Rattle.states.proofs.Passing.{opened_passed, whole_long, named-below, named-short}
use Rattle.states.proofs.Deciding.{spot_replaced, spot_taken, spot_none, held_some, held_none, save-unread, save-read}

module _ (store : Store) (n : Name) where
  -- a name is held exactly where a cell is
  unnamed : state store n ≡ none → named store 8 n ≡ none
  unfolding state
  unnamed = by-some (λ (x : Option Tape). x ≡ none → named store 8 n ≡ none) (λ z e. z) (λ i z e. absurd (none-some (sym e)))

  cell-named : {tape : Tape} → state store n ≡ some tape → (i : ℕ) × (named store 8 n ≡ some i)
  unfolding state
  cell-named {tape} =
      by-some (λ (x : Option Tape). x ≡ some tape → (i : ℕ) × (named store 8 n ≡ some i)) (λ z e. absurd (none-some e)) (λ i z e. (i, z))

module _ (store : Store) (s : Sound store) (n : Name) where
  -- 20, deleting: "a name not held"; otherwise it is deleted
  pub delete_unheld : state store n ≡ none → delete_reply store n ≡ Refused 20 0
  delete_unheld e = held_none store n (is_whole store) s (unnamed store n e)

  pub delete-held : {tape : Tape} → state store n ≡ some tape → (i : ℕ) × (delete_reply store n ≡ Passed i)
  delete-held e = let c = cell-named store n e in (c.0, held_some store n (is_whole store) s c.1)

  module _ (tape : Tape) where
    -- "A tape is saved only if the tape questions pass it", also where eight are held
    pub save_unasked : {number place : ℕ} → read tape ≡ Refused number place → save_reply store n tape ≡ Refused number place
    save_unasked e = save-unread store n tape refl s e

    module _ {lines : Listing} (r : read tape ≡ Passed lines) where
      -- "Saving under an existing name replaces it"
      pub save-held : {old : Tape} → state store n ≡ some old → (i : ℕ) × (save_reply store n tape ≡ Passed (replaced i))
      save-held e = let c = cell-named store n e in (c.0, save-read store n tape refl s r ∙ spot_replaced store n c.1)

      -- 21: "saving a new name while eight are held"
      pub save_full : state store n ≡ none → ((i : ℕ) → i < 8 → first_byte (cell store i) ≡ 1) → save_reply store n tape ≡ Refused 21 0
      save_full e f =
          save-read store n tape refl s r
          ∙ spot_none store n (unnamed store n e)
          (none_first _ 8 0 (λ j a b. ne_eqb (first_byte (cell store j)) 0 (λ z. omega (arith, f j (omega arith)))))

      -- "a new name takes the first free cell"
      pub save_new : state store n ≡ none → (i : ℕ) → i < 8 → first_byte (cell store i) ≡ 0
          → (k : ℕ) × (save_reply store n tape ≡ Passed (taken k)) × (free_cell store ≡ some k)
      save_new e i b f = found (free_cell store) refl
        where
          found : (o : Option ℕ) → free_cell store ≡ o → (k : ℕ) × (save_reply store n tape ≡ Passed (taken k)) × (free_cell store ≡ some k)
          found none z = absurd (true-false (eq-eqb _ _ f) (first_none _ 8 0 z i (omega arith) (omega arith)))
          found (some k) z = (k, save-read store n tape refl s r ∙ spot_taken store n (unnamed store n e) z, z)

  -- what coming back answers is the length that the cell holds
  pub restored_length : {i : ℕ} → named store 8 n ≡ some i → length (tape_of (cell store i)) ≡ length_of (cell store i)
  unfolding tape_of
  restored_length {i} e =
      let o = opened_passed store (is_whole store) s in
      let l = cell-length store i (named-below store n e) (whole_long store o.0) in
      length-take-le (length_of (cell store i)) (drop 13 (cell store i))
      (simp length-drop (omega (arith, l, named-short store n o.1 e, room_is)))
