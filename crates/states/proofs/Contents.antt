-- Cells of a store: where they lie, what is put into one and not into the others, and what each call's bytes make of one. Assumes nothing.
use Prim.Native.Nat.{ℕ, suc, ◌+◌, ◌*◌, ◌≤◌, ◌<◌}
use native.Mathlib.Omega.{arith}
use native.Mathlib.Decide.{dec_le}
use mathlib.Core.Path.{◌≡◌, refl, ap, ◌∙◌}
use mathlib.Core.Logic.{by_cases}
use mathlib.Core.List.{List, [], ◌∷◌, ◌++◌, append_assoc}
use lib.ListN.{length, take, drop, length-append, length-drop, get_or-append}
use lib.Seq.{length-take-le, take_at, drop_at, get_or-take}
use Rattle.reference.specs.Tape.{to_le_bytes, from_le_bytes}
use Rattle.reference.proofs.LittleEndian.{to_length, from_to}
use Rattle.tape.specs.Bytes.{put}
use Rattle.tape.proofs.little_endian.Bytes.{put_front, put-length}
use Rattle.states.specs.Store.{Store, Cell, Name, Tape, CELL, STORE, ROOM, cell, first_byte, name_of, length_of, tape_of}
use Rattle.states.specs.Calls.{body}
use Rattle.states.proofs.Puts.{part-before, part-behind, part-from, front_of}

-- ---- the numbers

-- as the code has them
pub cell_is : 65536 ≡ CELL
unfolding CELL
cell_is = refl

pub store_is : 524288 ≡ STORE
unfolding STORE
store_is = refl

pub most_is : 65523 ≡ ROOM
unfolding ROOM
most_is = refl

pub cell-ends : (i : ℕ) → i < 8 → i * CELL + CELL ≤ STORE
unfolding CELL STORE
cell-ends i h = omega arith

pub cells-apart : (i j : ℕ) → i < j → i * CELL + CELL ≤ j * CELL
unfolding CELL
cells-apart i j h = omega arith

pub room_is : 13 + ROOM ≡ CELL
unfolding CELL ROOM
room_is = refl

pub store-fits : STORE ≤ 524288
unfolding STORE
store-fits = omega arith

pub room_fits : ROOM < 4294967296
unfolding ROOM
room_fits = omega arith

pub cell-length : (store : Store) (i : ℕ) → i < 8 → STORE ≤ length store → length (cell store i) ≡ CELL
unfolding cell
cell-length store i h w = length-take-le CELL (drop (i * CELL) store) (simp length-drop (omega (arith, cell-ends i h)))

pub cell_head : (store : Store) (i : ℕ) → i < 8 → STORE ≤ length store → 13 ≤ length (cell store i)
cell_head store i h w = omega (arith, cell-length store i h w, room_is)

-- ---- bytes put into one cell

-- the store that has another cell k: all other cells are as before, and so is its length
pub record Changed (store store' : Store) (k : ℕ) (c : Cell) : Type 0 where
  pub below : k < 8
  pub whole : STORE ≤ length store
  pub long : length store' ≡ length store
  pub here : cell store' k ≡ c
  pub others : (i : ℕ) → i < 8 → (i ≡ k → ⊥) → cell store' i ≡ cell store i
  pub behind : drop STORE store' ≡ drop STORE store

module _ (store : Store) (k o : ℕ) (bs : List ℕ) (h : k < 8) (w : STORE ≤ length store) (fits : o + length bs ≤ CELL) where
  put_here : cell (put store (k * CELL + o) bs) k ≡ put (cell store k) o bs
  unfolding cell
  put_here =
      let l : CELL ≤ length (drop (k * CELL) store) = simp length-drop (omega (arith, cell-ends k h)) in
      ap (take CELL) (part-from store bs (k * CELL) o (omega (arith, cell-ends k h))) ∙ front_of (drop (k * CELL) store) bs CELL o fits l

  put_other : (i : ℕ) → i < 8 → (i ≡ k → ⊥) → cell (put store (k * CELL + o) bs) i ≡ cell store i
  unfolding cell
  put_other i g n =
      by_cases (dec_le (suc i) k)
      (λ a. part-before store bs (k * CELL + o) (i * CELL) CELL (omega (arith, cells-apart i k a)) (omega (arith, cell-ends k h)))
      (λ a. (let b : k < i = omega (arith, n) in
      ap (take CELL) (part-behind store bs (k * CELL + o) (i * CELL) (omega (arith, cells-apart k i b)) (omega (arith, cell-ends k h)))))

  pub put-changed : Changed store (put store (k * CELL + o) bs) k (put (cell store k) o bs)
  put-changed =
      record {
        below = h;
        whole = w;
        long = put-length store (k * CELL + o) bs (omega (arith, cell-ends k h));
        here = put_here;
        others = put_other;
        behind = part-behind store bs (k * CELL + o) STORE (omega (arith, cell-ends k h)) (omega (arith, cell-ends k h));
      }

-- ---- what a cell holds

pub record Kept (c : Cell) (n : Name) (tape : Tape) : Type 0 where
  pub held : first_byte c ≡ 1
  pub name_is : name_of c ≡ n
  pub length_is : length_of c ≡ length tape
  pub tape_is : tape_of c ≡ tape

module _ (tape : Tape) (short : length tape ≤ ROOM) where
  pub body-length : length (body tape) ≡ 4 + length tape
  body-length = rw length-append (omega (arith, to_length 4 (length tape)))

  -- the length and the tape behind nine bytes
  module _ (front rest : List ℕ) (nine : length front ≡ 9) where
    body_reads : from_le_bytes (take 4 (drop 9 (front ++ body tape ++ rest))) ≡ length tape
    body_reads =
        let e : drop 9 (front ++ body tape ++ rest) ≡ to_le_bytes 4 (length tape) ++ (tape ++ rest) =
        rw (
          append_assoc front (body tape) rest,
          drop_at front (body tape ++ rest) 9 nine,
          append_assoc (to_le_bytes 4 (length tape)) tape
              rest,
        ) in
        rw (e, take_at (to_le_bytes 4 (length tape)) (tape ++ rest) 4 (to_length 4 (length tape)))
        (from_to 4 (length tape) (omega (arith, room_fits)))

    body-tape : take (length tape) (drop 13 (front ++ body tape ++ rest)) ≡ tape
    body-tape =
        let m : length (front ++ to_le_bytes 4 (length tape)) ≡ 13 = rw length-append (omega (arith, to_length 4 (length tape))) in
        let e : front ++ body tape ++ rest ≡ front ++ to_le_bytes 4 (length tape) ++ (tape ++ rest) = simp append_assoc in
        rw (e, drop_at (front ++ to_le_bytes 4 (length tape)) (tape ++ rest) 13 m) (take_at tape rest (length tape) refl)

    body_kept : (c : Cell) → c ≡ front ++ body tape ++ rest → (length_of c ≡ length tape) × (tape_of c ≡ tape)
    unfolding length_of tape_of
    body_kept c e = rw e (body_reads, rw body_reads body-tape)

  module _ (c : Cell) (l : length c ≡ CELL) where
    -- a cell that is taken for a name and its tape
    pub taken-kept : (n : Name) → length n ≡ 8 → Kept (put c 0 (1 ∷ n ++ body tape)) n tape
    unfolding first_byte name_of
    taken-kept n g =
        let rest = drop (length (1 ∷ n ++ body tape)) c in
        let e : put c 0 (1 ∷ n ++ body tape) ≡ (1 ∷ n) ++ body tape ++ rest = put_front c (1 ∷ n ++ body tape) in
        let b = body_kept (1 ∷ n) rest (omega arith) (put c 0 (1 ∷ n ++ body tape)) e in
        record {
          held = rw e;
          name_is = rw (e, append_assoc n (body tape) rest) (take_at n (body tape ++ rest) 8 g);
          length_is = b.0;
          tape_is = b.1;
        }

    -- a cell whose tape is replaced
    pub replaced-kept : (n : Name) → first_byte c ≡ 1 → name_of c ≡ n → Kept (put c 9 (body tape)) n tape
    unfolding first_byte name_of put
    replaced-kept n f g =
        let nine : length (take 9 c) ≡ 9 = length-take-le 9 c (omega (arith, room_is)) in
        let rest = drop (9 + length (body tape)) c in
        let b = body_kept (take 9 c) rest nine (put c 9 (body tape)) refl in
        record {
          held =
              rw (append_assoc (take 9 c) (body tape) rest)
              (get_or-append (take 9 c) (body tape ++ rest) 0 0 (omega arith) ∙ get_or-take 9 c 0 0 (omega arith) ∙ f);
          name_is = part-before c (body tape) 9 1 8 (omega arith) (omega (arith, room_is)) ∙ g;
          length_is = b.0;
          tape_is = b.1;
        }

-- a cell that is given up
pub freed : (c : Cell) → length c ≡ CELL → first_byte (put c 0 (0 ∷ [])) ≡ 0
unfolding first_byte
freed c l = rw (put_front c (0 ∷ []))
