-- Bytes put into a list one after the other. Assumes nothing.
use Prim.Native.Nat.{ℕ, zero, suc, ◌+◌, ◌≤◌, ◌<◌}
use native.Mathlib.Nat.{add-zero, zero-add}
use native.Mathlib.Omega.{arith}
use native.Mathlib.Numerals.{add-one}
use mathlib.Core.Path.{◌≡◌, refl, sym, ap, ◌∙◌}
use mathlib.Core.List.{List, [], ◌∷◌, ◌++◌, append_assoc, append-nil}
use lib.ListN.{length, get_or, take, drop, set, length-append, length-drop, take-append-drop}
use lib.Seq.{length-take-le, take-length, take_at, drop_at, drop-drop, set_split, append_snoc, paste}
use Rattle.std.specs.Int as Int
use Rattle.std.proofs.Common.{w16, w64, take_all}
use Rattle.reference.specs.Tape.{from_le_bytes}
use Rattle.reference.proofs.LittleEndian.{from_at}
use Rattle.text.specs.Cursor.{Written}
use Rattle.tape.specs.Bytes.{put, Puts}

module _ (out : List ℕ) where
  pub put_front : (bytes : List ℕ) → put out 0 bytes ≡ bytes ++ drop (length bytes) out
  unfolding put
  put_front bytes = rw zero-add

  module _ (at : ℕ) where
    pub put_none : put out at [] ≡ out
    unfolding put
    put_none = rw (append-nil, add-zero) (take-append-drop at out)

    pub put_pasted : (bytes : List ℕ) → paste out at bytes (length bytes) ≡ put out at bytes
    unfolding put
    put_pasted bytes = rw take-length

    pub put_one : (b : ℕ) → at < length out → set out at b ≡ put out at (b ∷ [])
    unfolding put
    put_one b h = set_split out at b h ∙ rw (add-one, append_snoc)

    pub put-length : (bytes : List ℕ) → at + length bytes ≤ length out → length (put out at bytes) ≡ length out
    unfolding put
    put-length bytes h =
        let e : length (take at out) ≡ at = length-take-le at out (omega arith) in
        simp (length-append, length-drop) (omega arith)

    pub put_append : (a b : List ℕ) → at ≤ length out → put (put out at a) (at + length a) b ≡ put out at (a ++ b)
    unfolding put
    put_append a b h =
        let head : List ℕ = take at out ++ a in
        let tail : List ℕ = drop (at + length a) out in
        let n : length head ≡ at + length a = rw length-append (omega (arith, length-take-le at out h)) in
        let s : at + length a + length b ≡ at + length (a ++ b) = rw length-append (omega arith) in
        let back : drop (at + length a + length b) (head ++ tail) ≡ drop (at + length (a ++ b)) out =
        sym (drop-drop (length b) (at + length a) (head ++ tail))
        ∙ ap (drop (length b)) (drop_at head tail (at + length a) n)
        ∙ drop-drop (length b) (at + length a) out
        ∙ ap (λ (k : ℕ). drop k out) s in
        rw (take_at head tail (at + length a) n, back, append_assoc (take at out) a b)

-- ---- functions that write

module _ (out : List ℕ) (at : ℕ) where
  -- one after the other
  pub puts_append : (a b : List ℕ) {mid after : List ℕ} {m n : ℕ} → at ≤ length out → Puts out at a mid m → Puts mid m b after n → Puts out at (a ++ b) after n
  puts_append a b h p q =
      record {
        holds = q.holds ∙ rw (p.holds, p.ends) (put_append out at a b h);
        ends = omega (arith, p.ends, q.ends, length-append a b);
      }

-- ---- the same as what crate text says of a cursor

module _ {out : List ℕ} {at : ℕ} {bytes after : List ℕ} {next : ℕ} where
  pub puts_written : Written out at bytes after next → Puts out at bytes after next
  puts_written w = record { holds = w.bytes_are ∙ put_pasted out at bytes; ends = w.end_is }

-- ---- what std reads

pub two_bytes : (tape : List ℕ) (at : ℕ) → Int.from_le_bytes w16 (get_or tape (at + 1) 0 ∷ get_or tape (at + 2) 0 ∷ []) ≡ from_le_bytes (take 2 (drop (at + 1) tape))
unfolding from_le_bytes
two_bytes tape at =
    let two : at + 2 ≡ suc (suc at) = omega arith in
    sym (rw (two, add-one, from_at 1 (suc at) tape, from_at 0 (suc (suc at)) tape) (omega arith))

eight_bytes : (s : List ℕ) → Int.from_le_bytes w64 s ≡ from_le_bytes (take 8 (drop 0 s))
unfolding from_le_bytes
eight_bytes s =
    sym (rw (from_at 7 0 s, from_at 6 1 s, from_at 5 2 s, from_at 4 3 s, from_at 3 4 s, from_at 2 5 s, from_at 1 6 s, from_at 0 7 s) (omega arith))

none_left : (n : ℕ) (s : List ℕ) → from_le_bytes s ≡ 0 → from_le_bytes (drop n s) ≡ 0
unfolding from_le_bytes
none_left zero s e = e
none_left (suc n) [] e = refl
none_left (suc n) (b ∷ s) e = none_left n s (omega arith)

then_none : (s t : List ℕ) → from_le_bytes t ≡ 0 → from_le_bytes (s ++ t) ≡ from_le_bytes s
unfolding from_le_bytes
then_none [] t e = e
then_none (b ∷ s) t e = rw (then_none s t e)

abbrev zeros : List ℕ
zeros = 0 ∷ 0 ∷ 0 ∷ 0 ∷ 0 ∷ 0 ∷ 0 ∷ 0 ∷ []

-- the front of eight bytes, the others being 0
pub front_read : (n : ℕ) (s : List ℕ) → length s ≡ n → n ≤ 8 → Int.from_le_bytes w64 (s ++ drop n zeros) ≡ from_le_bytes s
unfolding from_le_bytes
front_read n s e h =
    let t : List ℕ = drop n zeros in
    let all : take 8 (s ++ t) ≡ s ++ t = take_all 8 (s ++ t) (omega (arith, length-append s t, length-drop n zeros)) in
    eight_bytes (s ++ t) ∙ ap from_le_bytes all ∙ then_none s t (none_left n zeros (omega arith))
