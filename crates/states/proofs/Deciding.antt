-- What the definitions answer, step by step, as the code asks. Assumes nothing.
use Prim.Native.Nat.{ℕ, ◌≤◌, ◌<◌}
use mathlib.Core.Path.{◌≡◌, refl, sym, ◌∙◌}
use mathlib.Core.Bool.{Bool, true, false}
use mathlib.Core.Logic.{◌⊎◌, inl, inr}
use mathlib.Core.Option.{none, some}
use lib.Dec.{ltb}
use lib.ListN.{length, get_or}
use borrow.Author.Tests.{lt-ltb, le-ltb, lt-leb, le-leb, eq-eqb, ne_eqb}
use Rattle.reference.specs.Control.{◌and◌, when◌then◌else◌, let_some◌else◌then◌}
use Rattle.reference.specs.Lists.{is_some}
use Rattle.reference.specs.Listing.{Listing}
use Rattle.reference.specs.Questions.{Refused, Passed, ask, let_passed◌then◌, read}
use Rattle.laws.proofs.Scans.{or_true, or_false, and_true, and_false, and_kept}
use Rattle.states.specs.Store.{Store, Cell, Name, Tape, ROOM, cell}
use Rattle.states.specs.Store.{first_byte, name_of, length_of, named, free_cell, is_wrong, wrong_cell, entry_in, entry_at}
use Rattle.states.specs.Calls.{opened, is_whole, list_reply, held_cell, replaced, taken, spot_for, save_reply}
use Rattle.states.specs.Answers.{cell_of}
use Rattle.states.proofs.Contents.{store_is}
use Rattle.std.specs.Prelude as Std
use Rattle.std.specs.Prelude.{Some, None, Ok, Err}
use Rattle.std.specs.Option.{ok_or}
use Rattle.reference.specs.Options.{option_of}
use Rattle.answers.specs.declared.Reason.TheVariants.{StoreFull, NotHeld}
use Rattle.answers.specs.declared.Refusal.{Refusal}
use Rattle.answers.specs.Refusals.{number_of}

-- ---- 22

module _ (store : Store) (i : ℕ) {c : Cell} (e : c ≡ cell store i) where
  pub wrong-above : 1 < get_or c 0 0 → true ≡ is_wrong store i
  unfolding is_wrong first_byte
  wrong-above h = sym (or_true _ (lt-ltb _ _ (rw e at h)))

  module _ (low : get_or c 0 0 ≤ 1) where
    pub right-free : (get_or c 0 0 ≡ 1 → ⊥) → false ≡ is_wrong store i
    unfolding is_wrong first_byte
    right-free h = sym (or_false _ (le-ltb _ _ (rw e at low)) ∙ and_false _ (ne_eqb _ _ (rw e at h)))

    module _ (held : get_or c 0 0 ≡ 1) where
      pub wrong-long : ltb ROOM (length_of c) ≡ true → true ≡ is_wrong store i
      unfolding is_wrong first_byte
      wrong-long h = sym (or_false _ (le-ltb _ _ (rw e at low)) ∙ and_true _ (eq-eqb _ _ (rw e at held)) ∙ or_true _ (rw e at h))

      pub wrong-twice : ltb ROOM (length_of c) ≡ false → is_some (named store i (name_of c)) ≡ is_wrong store i
      unfolding is_wrong first_byte
      wrong-twice h =
          rw e (sym (or_false _ (le-ltb _ _ (rw e at low)) ∙ and_true _ (eq-eqb _ _ (rw e at held)) ∙ or_false _ (rw e at h)))

-- ---- what the list has of a cell

module _ (c : Cell) where
  pub unlisted : (get_or c 0 0 ≡ 1 → ⊥) → none ≡ entry_in c
  unfolding entry_in first_byte when◌then◌else◌
  unlisted h = rw (ne_eqb (get_or c 0 0) 1 h) refl

  pub listed : {n : Name} {k : ℕ} → get_or c 0 0 ≡ 1 → n ≡ name_of c → k ≡ length_of c → some (record { name = n; length = k }) ≡ entry_in c
  unfolding entry_in first_byte when◌then◌else◌
  listed h e f = rw (eq-eqb (get_or c 0 0) 1 h, e, f) refl

module _ (store : Store) (i : ℕ) where
  pub within : i < 8 → entry_in (cell store i) ≡ entry_at store i
  unfolding entry_at when◌then◌else◌
  within h = rw (lt-ltb i 8 h) refl

  pub past : 8 ≤ i → none ≡ entry_at store i
  unfolding entry_at when◌then◌else◌
  past h = rw (le-ltb i 8 h) refl

-- ---- 2 and 22

module _ (store : Store) {room : Bool} where
  pub opened-short : room ≡ false → opened store room ≡ Refused 2 0
  unfolding opened ask when◌then◌else◌
  opened-short r = rw r

  pub opened-wrong : {i : ℕ} → room ≡ true → wrong_cell store ≡ some i → opened store room ≡ Refused 22 i
  unfolding opened ask when◌then◌else◌ let_some◌else◌then◌
  opened-wrong r e = rw (r, e)

  pub opened-right : room ≡ true → wrong_cell store ≡ none → opened store room ≡ Passed tt
  unfolding opened ask when◌then◌else◌ let_some◌else◌then◌
  opened-right r e = rw (r, e)

-- ---- the cell of a name, and the spot for a tape

module _ (store : Store) (n : Name) where
  pub spot_replaced : {i : ℕ} → named store 8 n ≡ some i → spot_for store n ≡ Passed (replaced i)
  unfolding spot_for let_some◌else◌then◌
  spot_replaced e = rw e

  pub spot_taken : {i : ℕ} → named store 8 n ≡ none → free_cell store ≡ some i → spot_for store n ≡ Passed (taken i)
  unfolding spot_for let_some◌else◌then◌
  spot_taken e f = rw (e, f)

  pub spot_none : named store 8 n ≡ none → free_cell store ≡ none → spot_for store n ≡ Refused 21 0
  unfolding spot_for let_some◌else◌then◌
  spot_none e f = rw (e, f)

  module _ (room : Bool) where
    pub held_refused : {number place : ℕ} → opened store room ≡ Refused number place → held_cell store room n ≡ Refused number place
    unfolding held_cell let_passed◌then◌
    held_refused e = rw e

    pub held_some : {i : ℕ} → opened store room ≡ Passed tt → named store 8 n ≡ some i → held_cell store room n ≡ Passed i
    unfolding held_cell let_passed◌then◌ let_some◌else◌then◌
    held_some e f = rw (e, f)

    pub held_none : opened store room ≡ Passed tt → named store 8 n ≡ none → held_cell store room n ≡ Refused 20 0
    unfolding held_cell let_passed◌then◌ let_some◌else◌then◌
    held_none e f = rw (e, f)

-- where nothing else is lent, the store alone tells
pub whole_room : (store : Store) → (is_whole store and true) ≡ is_whole store
whole_room store = and_kept (is_whole store)

module _ (store : Store) {enough : Bool} where
  pub room-there : 524288 ≤ length store → enough ≡ true → (is_whole store and enough) ≡ true
  unfolding is_whole ◌and◌
  room-there h e = rw (e, le-leb _ _ (rw store_is at h)) refl

  pub room-lacks : (length store < 524288) ⊎ ((524288 ≤ length store) × (enough ≡ false)) → (is_whole store and enough) ≡ false
  unfolding is_whole ◌and◌
  room-lacks (inl h) = rw (lt-leb _ _ (rw store_is at h)) refl
  room-lacks (inr (h, e)) = rw (e, le-leb _ _ (rw store_is at h)) refl

module _ (store : Store) (n : Name) (tape : Tape) {room : Bool} (r : room ≡ is_whole store) where
  pub save_unopened : {number place : ℕ} → opened store room ≡ Refused number place → save_reply store n tape ≡ Refused number place
  unfolding save_reply let_passed◌then◌
  save_unopened e = rw (← r, e)

  pub save-unread : {number place : ℕ} → opened store room ≡ Passed tt → read tape ≡ Refused number place
      → save_reply store n tape ≡ Refused number place
  unfolding save_reply let_passed◌then◌
  save-unread e f = rw (← r, e, f)

  pub save-read : {lines : Listing} → opened store room ≡ Passed tt → read tape ≡ Passed lines → save_reply store n tape ≡ spot_for store n
  unfolding save_reply let_passed◌then◌
  save-read e f = rw (← r, e, f)

module _ (store : Store) (i : ℕ) {room : Bool} (r : room ≡ is_whole store) where
  pub list_refused : {number place : ℕ} → opened store room ≡ Refused number place → list_reply store i ≡ Refused number place
  unfolding list_reply let_passed◌then◌
  list_refused e = rw (← r, e)

  pub list-passed : opened store room ≡ Passed tt → list_reply store i ≡ Passed (entry_at store i)
  unfolding list_reply let_passed◌then◌
  list-passed e = rw (← r, e)

-- ---- what the code finds

module _ (store : Store) (n : Name) where
  -- the first free cell, or 21
  pub spot_full : (o : Std.Option ℕ) {e d : Refusal} → named store 8 n ≡ none → option_of o ≡ free_cell store
      → e ≡ record { reason = StoreFull; place = 0 } → ok_or o e ≡ Err d → Refused (number_of d.reason) d.place ≡ spot_for store n
  spot_full None {e} {d} f g r h = let k : d ≡ e = cc in rw (k, r) (sym (spot_none store n f (sym g)))
  spot_full (Some i) f g r h = cc

  pub spot_free : (o : Std.Option ℕ) (e : Refusal) {i : ℕ} → named store 8 n ≡ none → option_of o ≡ free_cell store
      → ok_or o e ≡ Ok i → Passed (taken i) ≡ spot_for store n
  spot_free None e f g h = cc
  spot_free (Some j) e {i} f g h = let k : i ≡ j = cc in rw k (sym (spot_taken store n f (sym g)))

  -- the cell that is held, or 20
  pub held-found : (room : Bool) (o : Std.Option ℕ) {e : Refusal} → opened store room ≡ Passed tt → option_of o ≡ named store 8 n
      → e ≡ record { reason = NotHeld; place = 0 } → cell_of (ok_or o e) ≡ held_cell store room n
  held-found room None f g r = rw r (sym (held_none store n room f (sym g)))
  held-found room (Some i) f g r = sym (held_some store n room f (sym g))

pub none_of : {A : Type 0} (o : Std.Option A) → ((x : A) → o ≡ Some x → ⊥) → o ≡ None
none_of None h = refl
none_of (Some x) h = absurd (h x refl)
