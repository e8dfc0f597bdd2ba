-- Sequences of calls: `history`, and what comes back is accepted, `returned`. Assumes nothing.
use Prim.Native.Nat.{ℕ, ◌≤◌}
use mathlib.Core.Path.{◌≡◌, refl, sym, ap, ◌∙◌}
use mathlib.Core.Bool.{Bool, true, false}
use mathlib.Core.List.{List, [], ◌∷◌, ◌++◌}
use mathlib.Core.Option.{Option, none, some}
use lib.ListN.{length, drop}
use Rattle.reference.specs.Control.{◌and◌, when◌then◌else◌}
use Rattle.reference.specs.Text.{◌≟◌}
use Rattle.reference.specs.Questions.{Answer, Refused, Passed}
use Rattle.reference.proofs.Cases.{by-if, both, some_inj, none-some, true-false}
use Rattle.reference.proofs.Reading.{refused_passed, passed_inj}
use Rattle.reference.proofs.Shapes.{same_text}
use Rattle.reference.proofs.Guarantee.{demand3-tape}
use Rattle.tape.specs.Questions.{AcceptedTape}
use Rattle.states.specs.Store.{Store, Name, Tape, STORE, ROOM, state}
use Rattle.states.specs.Calls.{opened, is_whole, Spot, save_reply, after_save, delete_reply, after_delete, restore_reply}
use Rattle.states.specs.Histories.{Call, save, restore, delete, Named, EachNamed, Untouched}
use Rattle.states.specs.Histories.{after_call, after, passes, recall, remembered, Sound, HoldsAccepted}
use Rattle.states.specs.Promises.{Fresh, Saved, Deleted, come_back, History, Returned}
use Rattle.states.proofs.Deciding.{save_unopened, held_refused}
use Rattle.states.proofs.States.{same_refl, saved, deleted, restored, fresh}

-- the length, and what lies past the eight cells
abbrev SameEdges : Store → Store → Type 0
SameEdges store store' = (length store' ≡ length store) × (drop STORE store' ≡ drop STORE store)

-- what one call leaves
record Stepped (c : Call) (store store' : Store) : Type 0 where
  sound : Sound store'
  recalls : (m : Name) → state store' m ≡ recall c store m (state store m)
  accepted : HoldsAccepted store → HoldsAccepted store'
  edges : SameEdges store store'

module _ (store : Store) (s : Sound store) where
  module _ (n : Name) (tape : Tape) (eight : length n ≡ 8) where
    save-recalls : (a : Answer Spot) → save_reply store n tape ≡ a → (m : Name)
        → state (after_save (save_reply store n tape) store n tape) m ≡ (when passes a and (n ≟ m) then some tape else state store m)
    unfolding after_save ◌and◌
    save-recalls (Refused number place) e m =
        by-if (λ (x : Option Tape). state (after_save (save_reply store n tape) store n tape) m ≡ x) (λ f. absurd (true-false f refl))
        (λ f. rw e)
    save-recalls (Passed spot) e m =
        let w = saved store n tape eight s e in
        by-if (λ (x : Option Tape). state (after_save (save_reply store n tape) store n tape) m ≡ x)
        (λ y. rw (sym (same_text n m y)) w.holds)
        (λ f. w.others m (λ z. true-false (rw z (same_refl n)) f))

    save-sound : (a : Answer Spot) → save_reply store n tape ≡ a → Sound (after_save (save_reply store n tape) store n tape)
    unfolding after_save
    save-sound (Refused number place) e = rw e s
    save-sound (Passed spot) e = (saved store n tape eight s e).sound

    save_accepts : (a : Answer Spot) → save_reply store n tape ≡ a → HoldsAccepted store
        → HoldsAccepted (after_save (save_reply store n tape) store n tape)
    unfolding after_save
    save_accepts (Refused number place) e h m t x = h m t (rw e at x)
    save_accepts (Passed spot) e h m t x =
        let w = saved store n tape eight s e in
        split (n ≟ m) refl w
      where
        split : (b : Bool) → (n ≟ m) ≡ b → Saved store n tape (after_save (save_reply store n tape) store n tape) → AcceptedTape t
        split true y w =
            let z : some tape ≡ some t = sym w.holds ∙ ap (state (after_save (save_reply store n tape) store n tape)) (same_text n m y)
            ∙ x in
            rw (some_inj z) at w.accepted
        split false f w = h m t (sym (w.others m (λ z. true-false (rw z (same_refl n)) f)) ∙ x)

    save-edges : (a : Answer Spot) → save_reply store n tape ≡ a → SameEdges store (after_save (save_reply store n tape) store n tape)
    unfolding after_save
    save-edges (Refused number place) e = rw e (refl, refl)
    save-edges (Passed spot) e = let w = saved store n tape eight s e in (w.long, w.behind)

    save-step : Stepped (save n tape) store (after_call (save n tape) store)
    unfolding recall
    save-step =
        record { sound = save-sound _ refl; recalls = save-recalls _ refl; accepted = save_accepts _ refl; edges = save-edges _ refl }

  module _ (n : Name) where
    delete-recalls : (a : Answer ℕ) → delete_reply store n ≡ a → (m : Name)
        → state (after_delete (delete_reply store n) store) m ≡ (when passes a and (n ≟ m) then none else state store m)
    unfolding after_delete ◌and◌
    delete-recalls (Refused number place) e m =
        by-if (λ (x : Option Tape). state (after_delete (delete_reply store n) store) m ≡ x) (λ f. absurd (true-false f refl)) (λ f. rw e)
    delete-recalls (Passed i) e m =
        let w = deleted store n s e in
        by-if (λ (x : Option Tape). state (after_delete (delete_reply store n) store) m ≡ x)
        (λ y. rw (sym (same_text n m y)) w.gone)
        (λ f. w.others m (λ z. true-false (rw z (same_refl n)) f))

    delete-sound : (a : Answer ℕ) → delete_reply store n ≡ a → Sound (after_delete (delete_reply store n) store)
    unfolding after_delete
    delete-sound (Refused number place) e = rw e s
    delete-sound (Passed i) e = (deleted store n s e).sound

    delete_accepts : (a : Answer ℕ) → delete_reply store n ≡ a → HoldsAccepted store
        → HoldsAccepted (after_delete (delete_reply store n) store)
    unfolding after_delete
    delete_accepts (Refused number place) e h m t x = h m t (rw e at x)
    delete_accepts (Passed i) e h m t x =
        let w = deleted store n s e in
        split (n ≟ m) refl w
      where
        split : (b : Bool) → (n ≟ m) ≡ b → Deleted store n (after_delete (delete_reply store n) store) → AcceptedTape t
        split true y w =
            absurd (none-some (sym w.gone ∙ ap (state (after_delete (delete_reply store n) store)) (same_text n m y) ∙ x))
        split false f w = h m t (sym (w.others m (λ z. true-false (rw z (same_refl n)) f)) ∙ x)

    delete-edges : (a : Answer ℕ) → delete_reply store n ≡ a → SameEdges store (after_delete (delete_reply store n) store)
    unfolding after_delete
    delete-edges (Refused number place) e = rw e (refl, refl)
    delete-edges (Passed i) e = let w = deleted store n s e in (w.long, w.behind)

    delete-step : Stepped (delete n) store (after_call (delete n) store)
    unfolding recall
    delete-step =
        record {
          sound = delete-sound _ refl;
          recalls = delete-recalls _ refl;
          accepted = delete_accepts _ refl;
          edges = delete-edges _
              refl;
        }

  step : (c : Call) → Named c → Stepped c store (after_call c store)
  unfolding recall
  step (save n tape) e = save-step n tape e
  step (restore n output) e = record { sound = s; recalls = λ m. refl; accepted = λ h. h; edges = (refl, refl) }
  step (delete n) e = delete-step n

-- ---- a sequence of calls

kept-sound : (calls : List Call) → EachNamed calls → (store : Store) → Sound store → Sound (after calls store)
unfolding after
kept-sound [] n store s = s
kept-sound (c ∷ cs) n store s = kept-sound cs n.1 (after_call c store) (step store s c n.0).sound

all_recalled : (calls : List Call) → EachNamed calls → (store : Store) → Sound store → (m : Name)
    → state (after calls store) m ≡ remembered calls store m (state store m)
unfolding after remembered
all_recalled [] n store s m = refl
all_recalled (c ∷ cs) n store s m =
    let t = step store s c n.0 in
    all_recalled cs n.1 (after_call c store) t.sound m
    ∙ ap (remembered cs (after_call c store) m) (t.recalls m)

all-accepted : (calls : List Call) → EachNamed calls → (store : Store) → Sound store → HoldsAccepted store
    → HoldsAccepted (after calls store)
unfolding after
all-accepted [] n store s h = h
all-accepted (c ∷ cs) n store s h =
    let t = step store s c n.0 in all-accepted cs n.1 (after_call c store) t.sound (t.accepted h)

all_edges : (calls : List Call) → EachNamed calls → (store : Store) → Sound store → SameEdges store (after calls store)
unfolding after
all_edges [] n store s = (refl, refl)
all_edges (c ∷ cs) n store s =
    let t = step store s c n.0 in
    let e = all_edges cs n.1 (after_call c store) t.sound in
    (e.0 ∙ t.edges.0, e.1 ∙ t.edges.1)

pub history : (store : Store) (calls : List Call) → Sound store → EachNamed calls → History store calls
history store calls s n =
    let q = kept-sound calls n store s in
    let r = all_recalled calls n store s in
    record {
      sound = q;
      states = r;
      comes_back = λ m output room. restored (after calls store) m output q room ∙ ap come_back (r m);
      accepted = all-accepted calls n store s;
      long = (all_edges calls n store s).0;
      behind = (all_edges calls n store s).1;
    }

-- ---- the same in the request's words: the call that counts, and none of that name after it

other_name : (n m : Name) (b : Bool) (x y : Option Tape) → (n ≡ m → ⊥) → (when b and (n ≟ m) then x else y) ≡ y
other_name n m b x y z =
    by-if (λ (o : Option Tape). o ≡ y) {b = b and (n ≟ m)} (λ f. absurd (z (same_text n m (both {a = b} f).1))) (λ f. refl)

untouched : (m : Name) (calls : List Call) → Untouched m calls → (store : Store) (before : Option Tape) → remembered calls store m before ≡ before
unfolding remembered recall
untouched m [] q store before = refl
untouched m (save n tape ∷ cs) q store before =
    untouched m cs q.1 (after_call (save n tape) store) (recall (save n tape) store m before) ∙ other_name n m _ _ before q.0
untouched m (restore n output ∷ cs) q store before = untouched m cs q store before
untouched m (delete n ∷ cs) q store before =
    untouched m cs q.1 (after_call (delete n) store) (recall (delete n) store m before) ∙ other_name n m _ _ before q.0

remembered_append : (cs ds : List Call) (store : Store) (m : Name) (before : Option Tape)
    → remembered (cs ++ ds) store m before ≡ remembered ds (after cs store) m (remembered cs store m before)
unfolding remembered after
remembered_append [] ds store m before = refl
remembered_append (c ∷ cs) ds store m before = remembered_append cs ds (after_call c store) m (recall c store m before)

recall-save : (n : Name) (tape : Tape) (store : Store) (before : Option Tape) {spot : Spot} → save_reply store n tape ≡ Passed spot
    → recall (save n tape) store n before ≡ some tape
unfolding recall when◌then◌else◌ ◌and◌
recall-save n tape store before e = rw (e, same_refl n)

recall-delete : (n : Name) (store : Store) (before : Option Tape) {i : ℕ} → delete_reply store n ≡ Passed i
    → recall (delete n) store n before ≡ none
unfolding recall when◌then◌else◌ ◌and◌
recall-delete n store before e = rw (e, same_refl n)

module _ (store : Store) (s : Sound store) (cs ds : List Call) (n : Name) (output : ℕ) (room : ROOM ≤ output) (q : Untouched n ds) where
  -- what was saved under a name, and neither saved nor deleted since, comes back
  pub last_saved : (tape : Tape) {spot : Spot} → EachNamed (cs ++ save n tape ∷ ds) → save_reply (after cs store) n tape ≡ Passed spot
      → restore_reply (after (cs ++ save n tape ∷ ds) store) n output ≡ Passed tape
  unfolding remembered
  last_saved tape e p =
      (history store (cs ++ save n tape ∷ ds) s e).comes_back n output room
      ∙ ap come_back
      (remembered_append cs (save n tape ∷ ds) store n (state store n)
      ∙ untouched n ds q (after_call (save n tape) (after cs store)) _
      ∙ recall-save n tape (after cs store) _ p)

  -- and what was deleted, and not saved since, is not held
  pub last_deleted : {i : ℕ} → EachNamed (cs ++ delete n ∷ ds) → delete_reply (after cs store) n ≡ Passed i
      → restore_reply (after (cs ++ delete n ∷ ds) store) n output ≡ Refused 20 0
  unfolding remembered
  last_deleted e p =
      (history store (cs ++ delete n ∷ ds) s e).comes_back n output room
      ∙ ap come_back
      (remembered_append cs (delete n ∷ ds) store n (state store n)
      ∙ untouched n ds q (after_call (delete n) (after cs store)) _
      ∙ recall-delete n (after cs store) _ p)

-- What comes back from a store that began fresh is accepted, and demand 3 holds of its cleaning in every setting.
pub returned : (store : Store) (calls : List Call) → Fresh store → EachNamed calls → (m : Name) (output : ℕ) {tape : Tape} → ROOM ≤ output
    → restore_reply (after calls store) m output ≡ Passed tape → Returned tape
returned store calls f n m output {tape} room e =
    let b = fresh store f in
    let q = kept-sound calls n store b.0 in
    let held : come_back (state (after calls store) m) ≡ Passed tape = sym (restored (after calls store) m output q room) ∙ e in
    let a = all-accepted calls n store b.0 (λ k t x. absurd (none-some (sym (b.1 k) ∙ x))) m tape
    (back (state (after calls store) m) held) in
    record { listing = a.listing; reads = a.reads; demand3 = λ rules. demand3-tape rules tape a.listing a.reads }
  where
    back : (o : Option Tape) → come_back o ≡ Passed tape → o ≡ some tape
    back none x = absurd (refused_passed x)
    back (some t) x = ap some (passed_inj x)

-- ---- a store that earns 2 or 22

-- every call answers that number, and no sequence of calls changes a byte
module _ (store : Store) {number place : ℕ} (e : opened store (is_whole store) ≡ Refused number place) where
  pub save_closed : (n : Name) (tape : Tape) → save_reply store n tape ≡ Refused number place
  save_closed n tape = save_unopened store n tape refl e

  pub delete_closed : (n : Name) → delete_reply store n ≡ Refused number place
  delete_closed n = held_refused store n (is_whole store) e

  stays : (c : Call) → after_call c store ≡ store
  unfolding after_save after_delete
  stays (save n tape) = rw (save_closed n tape)
  stays (restore n output) = refl
  stays (delete n) = rw (delete_closed n)

  pub closed_stays : (calls : List Call) → after calls store ≡ store
  unfolding after
  closed_stays [] = refl
  closed_stays (c ∷ cs) = ap (after cs) (stays c) ∙ closed_stays cs
