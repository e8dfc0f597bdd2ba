-- What the functions that write a cell leave, one after the other. Assumes nothing.
use Prim.Native.Nat.{ℕ, ◌+◌, ◌≤◌}
use native.Mathlib.Omega.{arith}
use mathlib.Core.Path.{◌≡◌}
use mathlib.Core.List.{List, [], ◌∷◌, ◌++◌}
use lib.ListN.{length, drop, length-take}
use Rattle.text.specs.Cursor.{Fits, Puts}
use Rattle.text.specs.declared.cursor.Cursor.{Cursor}
use Rattle.text.proofs.Cursors.{then_puts, room_left}
use Rattle.tape.specs.Bytes.{put}
use Rattle.tape.proofs.little_endian.Bytes.{puts_written}
use Rattle.states.specs.Store.{Cell, length_of, tape_of}
use Rattle.states.specs.Calls.{body}

-- what is put into the store from a place on
pub stored : {p p' : Cursor} {bytes store store' : List ℕ} {at : ℕ} → Puts p bytes p' → p.out.now ≡ store → p.at ≡ at → p'.out.now ≡ store'
    → store' ≡ put store at bytes
stored w e f g = (puts_written (rw (e, f, g) at w.written)).holds

-- the first byte and the name, then the body
module _ (name tape : List ℕ) {p p₁ : Cursor} (n : length name ≡ 8) (room : Fits p (13 + length tape)) (a : Puts p (1 ∷ []) p₁) where
  pub name-room : Fits p₁ (length name)
  name-room = room_left a (length name) (omega (arith, room))

  module _ {p₂ : Cursor} (b : Puts p₁ name p₂) where
    pub body-room : Fits p₂ (4 + length tape)
    body-room = room_left b (4 + length tape) (room_left a (length name + (4 + length tape)) (omega (arith, room)))

    pub cell_puts : {q : Cursor} → Puts p₂ (body tape) q → Puts p (1 ∷ name ++ body tape) q
    cell_puts c = then_puts a (omega (arith, room)) (then_puts b (omega (arith, name-room)) c)

pub tape-short : (c : Cell) → length (tape_of c) ≤ length_of c
unfolding tape_of
tape-short c = omega (arith, length-take (length_of c) (drop 13 c))
