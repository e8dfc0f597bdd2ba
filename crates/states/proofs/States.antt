-- What each call does to the map from names to tapes: `saved`, `deleted`, `restored`; and that no call makes a store earn 22. Assumes
-- nothing.
use Prim.Native.Nat.{ℕ, ◌+◌, suc, ◌*◌, ◌≤◌, ◌<◌}
use native.Mathlib.Omega.{arith}
use native.Mathlib.Nat.{add-zero, le_refl}
use native.Mathlib.Decide.{dec_le, ℕ_discrete}
use mathlib.Core.Path.{◌≡◌, refl, sym, ap, ◌∙◌}
use mathlib.Core.Logic.{by_cases}
use mathlib.Core.Bool.{true, false}
use mathlib.Core.List.{[], ◌∷◌, ◌++◌}
use mathlib.Core.Option.{Option, none, some}
use lib.Dec.{leb}
use lib.ListN.{length, set, length-append, drop, replicate, length-replicate, get_or-replicate}
use lib.Seq.{get_or-take, get_or-drop}
use borrow.Author.Tests.{le-leb, ltb-false, le-ltb, eq-eqb, ne_eqb, eqb-true}
use Rattle.reference.specs.Control.{◌and◌, let_some◌else◌then◌}
use Rattle.reference.specs.Lists.{is_some}
use Rattle.reference.specs.Text.{◌≟◌}
use Rattle.reference.specs.Questions.{Refused, Passed, let_passed◌then◌}
use Rattle.reference.proofs.Cases.{by-some, both, neither, fails, true-false}
use Rattle.reference.proofs.Shapes.{same_text}
use Rattle.laws.proofs.Scans.{or_false, and_true, and_false}
use Rattle.tape.specs.Bytes.{put}
use Rattle.tape.specs.Questions.{AcceptedTape}
use Rattle.tape.proofs.little_endian.Bytes.{put_one}
use Rattle.states.specs.Store.{Store, Cell, Name, Tape, CELL, STORE, ROOM, cell}
use Rattle.states.specs.Store.{first_byte, name_of, length_of, tape_of, holds, named, is_wrong, state}
use Rattle.states.specs.Calls.{is_whole, held_cell, Spot, replaced, taken, save_reply}
use Rattle.states.specs.Calls.{body, saved_in, after_save, delete_reply, after_delete, restore_reply}
use Rattle.states.specs.Histories.{Sound}
use Rattle.states.specs.Promises.{Fresh, Saved, Deleted, come_back}
use Rattle.states.proofs.Firsts.{first_some, first_none, none_first, some_first, first_same}
use Rattle.states.proofs.Contents.{cell-ends, cell-length, room_is, Changed, put-changed}
use Rattle.states.proofs.Contents.{Kept, body-length, taken-kept, replaced-kept, freed}
use Rattle.states.proofs.Deciding.{opened-right}
use Rattle.states.proofs.Passing.{accepted-fits, opened_passed, whole_long, named-below}
use Rattle.states.proofs.Passing.{named-holds, held_passed, saves_replaced, saves_taken, saving_ready}

pub same_refl : (a : Name) → (a ≟ a) ≡ true
unfolding ◌and◌
same_refl [] = refl
same_refl (x ∷ xs) = rw (eq-eqb x x refl, same_refl xs)

none_is : {o : Option ℕ} → is_some o ≡ false → o ≡ none
none_is {o = none} e = refl
none_is {o = some i} e = absurd (true-false refl e)

-- ---- a cell that is held under a name

module _ (m : Name) (c : Cell) where
  holds_named : first_byte c ≡ 1 → name_of c ≡ m → holds m c ≡ true
  unfolding holds
  holds_named f e = and_true _ (eq-eqb _ _ f) ∙ rw e (same_refl m)

  holds-free : (first_byte c ≡ 1 → ⊥) → holds m c ≡ false
  unfolding holds
  holds-free f = and_false _ (ne_eqb _ _ f)

  holds-held : holds m c ≡ true → first_byte c ≡ 1
  unfolding holds
  holds-held e = eqb-true _ _ (both e).0

  holds-name : holds m c ≡ true → name_of c ≡ m
  unfolding holds
  holds-name e = same_text _ _ (both e).1

  -- held under another name, or under none
  named-apart : {n : Name} → name_of c ≡ n → (m ≡ n → ⊥) → holds m c ≡ false
  named-apart e z = fails (λ t. z (sym (holds-name t) ∙ e))

-- ---- a store that earns neither 2 nor 22

pub record Right (store : Store) (i : ℕ) : Type 0 where
  pub low : first_byte (cell store i) ≤ 1
  pub short : first_byte (cell store i) ≡ 1 → length_of (cell store i) ≤ ROOM
  pub apart : first_byte (cell store i) ≡ 1 → (j : ℕ) → j < i → holds (name_of (cell store i)) (cell store j) ≡ false

module _ (store : Store) (i : ℕ) where
  right : is_wrong store i ≡ false → Right store i
  unfolding is_wrong
  right e =
      let n = neither e in
      record {
        low = ltb-false _ _ n.0;
        short = λ h. ltb-false _ _ (neither (sym (and_true _ (eq-eqb _ _ h)) ∙ n.1)).0;
        apart = λ h j b. first_none _ i 0 (none_is (neither (sym (and_true _ (eq-eqb _ _ h)) ∙ n.1)).1) j (omega arith) (omega arith);
      }

  not-wrong : Right store i → is_wrong store i ≡ false
  unfolding is_wrong
  not-wrong r =
      or_false _ (le-ltb _ _ r.low)
      ∙ by_cases (dec_le 1 (first_byte (cell store i)))
      (λ a.
      let h : first_byte (cell store i) ≡ 1 = omega (arith, r.low) in
      and_true _ (eq-eqb _ _ h) ∙ or_false _ (le-ltb _ _ (r.short h))
      ∙ ap is_some (none_first _ i 0 (λ j x y. r.apart h j (omega arith))))
      (λ a. and_false _ (ne_eqb (first_byte (cell store i)) 1 (λ h. omega arith)))

pub record Good (store : Store) : Type 0 where
  pub whole : STORE ≤ length store
  pub cells : (i : ℕ) → i < 8 → Right store i

pub good : (store : Store) → Sound store → Good store
good store e =
    let o = opened_passed store (is_whole store) e in
    record {
      whole = whole_long store o.0;
      cells = λ i b. right store i (first_none _ 8 0 o.1 i (omega arith) (omega arith));
    }

pub sound : (store : Store) → Good store → Sound store
unfolding is_whole
sound store g =
    opened-right store (le-leb _ _ g.whole) (none_first _ 8 0 (λ j a b. not-wrong store j (g.cells j (omega arith))))

-- ---- the map of such a store

module _ (store : Store) (g : Good store) (m : Name) (k : ℕ) (b : k < 8) (h : holds m (cell store k) ≡ true) where
  -- no other cell is held under the name
  pub only : (j : ℕ) → j < 8 → (j ≡ k → ⊥) → holds m (cell store j) ≡ false
  only j c n =
      let e = holds-name m (cell store k) h in
      by_cases (dec_le (suc j) k)
      (λ a. rw e at ((g.cells k b).apart (holds-held m (cell store k) h) j a))
      (λ a.
      fails λ t.
      (let f = holds-name m (cell store j) t in
      let d : k < j = omega (arith, n) in
      true-false h (rw f at ((g.cells j c).apart (holds-held m (cell store j) t) k d))))

  pub state_is : state store m ≡ some (tape_of (cell store k))
  unfolding state let_some◌else◌then◌
  state_is =
      let e : named store 8 m ≡ some k =
      some_first _ 8 0 k (record {
        passes = h;
        from = omega arith;
        below = omega arith;
        before = λ l x y. only l (omega arith)
            (λ z. omega arith);
      }) in
      rw e

pub state_none : (store : Store) (m : Name) → ((j : ℕ) → j < 8 → holds m (cell store j) ≡ false) → state store m ≡ none
unfolding state let_some◌else◌then◌
state_none store m f = let e : named store 8 m ≡ none = none_first _ 8 0 (λ j a b. f j (omega arith)) in rw e

-- ---- another cell k

module _ (store store' : Store) (k : ℕ) (c : Cell) (d : Changed store store' k c) where
  module _ (g : Good store) (low : first_byte c ≤ 1) (short : first_byte c ≡ 1 → length_of c ≤ ROOM)
      (new : first_byte c ≡ 1 → (j : ℕ) → j < 8 → (j ≡ k → ⊥) → holds (name_of c) (cell store j) ≡ false) where
    at_k : Right store' k
    at_k =
        let e = d.here in
        record {
          low = rw e low;
          short = rw e short;
          apart =
              rw e λ h j b.
              rw (d.others j (omega (arith, d.below)) (λ z. omega arith)) (new h j (omega (arith, d.below)) (λ z. omega arith));
        }

    at_other : (i : ℕ) → i < 8 → (i ≡ k → ⊥) → Right store' i
    at_other i b n =
        let e = d.others i b n in
        let r = g.cells i b in
        record {
          low = rw e r.low;
          short = rw e r.short;
          apart = rw e λ h j a. earlier h j a;
        }
      where
        earlier : first_byte (cell store i) ≡ 1 → (j : ℕ) → j < i → holds (name_of (cell store i)) (cell store' j) ≡ false
        earlier h j a =
            by_cases (ℕ_discrete j k)
            (λ z.
            rw (z, d.here)
            (fails λ t.
            true-false (holds_named (name_of c) (cell store i) h (sym (holds-name (name_of (cell store i)) c t)))
            (new (holds-held (name_of (cell store i)) c t) i b n)))
            (λ z. rw (d.others j (omega arith) z) ((g.cells i b).apart h j a))

    pub changed-good : Good store'
    changed-good =
        record {
          whole = omega (arith, d.whole, d.long);
          cells = λ i b. by_cases (ℕ_discrete i k) (λ z. rw z at_k) (λ z. at_other i b z);
        }

  -- a name that neither the old cell nor the new one is held under
  module _ (m : Name) (old : holds m (cell store k) ≡ false) (new : holds m c ≡ false) where
    same : (j : ℕ) → j < 8 → holds m (cell store' j) ≡ holds m (cell store j)
    same j b = by_cases (ℕ_discrete j k) (λ z. rw (z, d.here) (new ∙ sym old)) (λ z. rw (d.others j b z))

    pub state-stays : state store' m ≡ state store m
    unfolding state let_some◌else◌then◌
    state-stays =
        let found : named store' 8 m ≡ named store 8 m = first_same _ _ 8 0 (λ j a b. same j (omega arith)) in
        rw found
        (by-some (λ (x : Option Tape). (let_some (named store 8 m) else none then λ i. some (tape_of (cell store' i))) ≡ x)
        {o = named store 8 m}
        (λ z. rw z)
        (λ i s.
        rw s
        (ap (λ (y : Cell). some (tape_of y)) (d.others i (named-below store m s) (λ z. true-false (named-holds store m s) (rw z old))))))

-- ---- saving

module _ (store : Store) (n : Name) (tape : Tape) (g : Good store) where
  -- the cell k is now that of the name and its tape
  kept_saved : {store' : Store} {k : ℕ} {c : Cell} → Changed store store' k c → Kept c n tape → AcceptedTape tape
      → ((j : ℕ) → j < 8 → (j ≡ k → ⊥) → holds n (cell store j) ≡ false)
      → ((m : Name) → (m ≡ n → ⊥) → holds m (cell store k) ≡ false)
      → Saved store n tape store'
  kept_saved {store'} {k} {c} d e a free old =
      let short : length_of c ≤ ROOM = rw e.length_is (accepted-fits tape a.listing a.reads) in
      let q : Good store' =
      changed-good store store' k c d g (omega (arith, e.held)) (λ h. short) (λ h j b z. rw e.name_is (free j b z)) in
      record {
        sound = sound store' q;
        holds =
            state_is store' q n k d.below (rw d.here (holds_named n c e.held e.name_is))
            ∙ ap some (ap tape_of d.here ∙ e.tape_is);
        others = λ m z. state-stays store store' k c d m (old m z) (named-apart m c e.name_is z);
        long = d.long;
        behind = d.behind;
        accepted = a;
      }

  module _ (eight : length n ≡ 8) where
    saved_spot : (spot : Spot) → save_reply store n tape ≡ Passed spot → Saved store n tape (saved_in store n tape spot)
    unfolding saved_in
    saved_spot (replaced i) e =
        let r = saves_replaced store n tape e in
        let s = r.0 in
        let w = saving_ready store n tape s in
        let h = named-holds store n r.1 in
        let l = cell-length store i s.below g.whole in
        kept_saved
        (put-changed store i 9 _ s.below g.whole (rw (body-length tape w.1) (omega (arith, w.1, room_is))))
        (replaced-kept tape w.1 (cell store i) l n (holds-held n (cell store i) h) (holds-name n (cell store i) h))
        (record { listing = s.listing; reads = s.reads })
        (only store g n i s.below h)
        (λ m z. named-apart m (cell store i) (holds-name n (cell store i) h) z)
    saved_spot (taken i) e =
        let r = saves_taken store n tape e in
        let s = r.0 in
        let w = saving_ready store n tape s in
        let f : first_byte (cell store i) ≡ 0 = eqb-true _ _ (first_some _ 8 0 r.2).passes in
        let l = cell-length store i s.below g.whole in
        let d = put-changed store i 0 (1 ∷ n ++ body tape) s.below g.whole
        (rw (length-append (1 ∷ n) (body tape), body-length tape w.1) (omega (arith, w.1, room_is))) in
        kept_saved
        (rw (add-zero (i * CELL)) at d)
        (taken-kept tape w.1 (cell store i) l n eight)
        (record { listing = s.listing; reads = s.reads })
        (λ j b z. first_none _ 8 0 r.1 j (omega arith) (omega arith))
        (λ m z. holds-free m (cell store i) (λ x. omega arith))

pub saved : (store : Store) (n : Name) (tape : Tape) {spot : Spot} → length n ≡ 8 → Sound store → save_reply store n tape ≡ Passed spot
    → Saved store n tape (after_save (save_reply store n tape) store n tape)
unfolding after_save
saved store n tape {spot} eight s e = rw e (saved_spot store n tape (good store s) eight spot e)

-- ---- deleting

pub deleted : (store : Store) (n : Name) {i : ℕ} → Sound store → delete_reply store n ≡ Passed i
    → Deleted store n (after_delete (delete_reply store n) store)
unfolding after_delete
deleted store n {i} s e = rw e gone
  where
    g : Good store
    g = good store s

    h : named store 8 n ≡ some i
    h = (held_passed store n (is_whole store) e).1

    b : i < 8
    b = named-below store n h

    x : Cell
    x = put (cell store i) 0 (0 ∷ [])

    zero_byte : first_byte x ≡ 0
    zero_byte = freed (cell store i) (cell-length store i b g.whole)

    d : Changed store (set store (i * CELL) 0) i x
    d =
        rw (sym (put_one store (i * CELL) 0 (omega (arith, cell-ends i b, g.whole, room_is))))
        at (rw (add-zero (i * CELL)) at (put-changed store i 0 (0 ∷ []) b g.whole (omega (arith, room_is))))

    q : Good (set store (i * CELL) 0)
    q =
        changed-good store (set store (i * CELL) 0) i x d g (omega (arith, zero_byte)) (λ z. absurd (omega (arith, zero_byte)))
        (λ z. absurd (omega (arith, zero_byte)))

    gone : Deleted store n (set store (i * CELL) 0)
    gone =
        record {
          sound = sound (set store (i * CELL) 0) q;
          gone =
              state_none (set store (i * CELL) 0) n
              (λ j c.
              by_cases (ℕ_discrete j i)
              (λ z. rw (z, d.here) (holds-free n x (λ y. omega (arith, zero_byte))))
              (λ z. rw (d.others j c z) (only store g n i b (named-holds store n h) j c z)));
          others =
              λ m z.
              state-stays store (set store (i * CELL) 0) i x d m
              (named-apart m (cell store i) (holds-name n (cell store i) (named-holds store n h)) z)
              (holds-free m x (λ y. omega (arith, zero_byte)));
          long = d.long;
          behind = d.behind;
        }

-- ---- coming back

-- the answer is what is held under the name; nothing is written to the store
pub restored : (store : Store) (n : Name) (output : ℕ) → Sound store → ROOM ≤ output
    → restore_reply store n output ≡ come_back (state store n)
unfolding restore_reply held_cell state let_passed◌then◌ let_some◌else◌then◌
restored store n output s r =
    let o = opened_passed store (is_whole store) s in
    let t : (is_whole store and leb ROOM output) ≡ true = and_true _ o.0 ∙ le-leb _ _ r in
    let p = opened-right store t o.1 in
    rw p (found (named store 8 n))
  where
    found : (x : Option ℕ)
        → (let_passed (let_some x else Refused 20 0 then λ i. Passed i) then λ i. Passed (tape_of (cell store i)))
        ≡ come_back (let_some x else none then λ i. some (tape_of (cell store i)))
    found none = refl
    found (some i) = refl

-- ---- a fresh store

pub fresh : (store : Store) → Fresh store → Sound store × ((m : Name) → state store m ≡ none)
fresh store f = (
  sound store
      (record {
        whole = f.whole;
        cells =
            λ i b.
            record {
              low = omega (arith, f.free i b);
              short = λ h. absurd (omega (arith, f.free i b));
              apart = λ h. absurd (omega (arith, f.free i b));
            };
      }),
  λ m. state_none store m (λ j b. holds-free m (cell store j) (λ y. omega (arith, f.free j b))),
)

-- there is one: a store of zeros
pub zeros : Fresh (replicate STORE 0)
unfolding first_byte cell
zeros =
    record {
      whole = rw (length-replicate {A = ℕ} STORE 0) (le_refl STORE);
      free = λ i b.
          let room : 0 < CELL = omega (arith, room_is) in
          get_or-take CELL (drop (i * CELL) (replicate STORE 0)) 0 0 room
          ∙ get_or-drop (i * CELL) (replicate STORE 0) 0 0
          ∙ get_or-replicate STORE (i * CELL + 0) 0 0 (omega (arith, cell-ends i b, room_is));
    }
