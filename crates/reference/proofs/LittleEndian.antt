-- Numbers in bytes, the lowest first: what is written reads back, and what is read writes back. Assumes nothing.
use Prim.Native.Nat.{ℕ, zero, suc, ◌+◌, ◌*◌, ◌/◌, ◌%◌, ◌^◌, ◌<◌, ◌≤◌}
use native.Mathlib.Nat.{pow-suc}
use native.Mathlib.Omega.{arith}
use mathlib.Core.Path.{◌≡◌, refl, ap}
use mathlib.Core.List.{List, [], ◌∷◌}
use lib.ListN.{length, get_or, take, drop}
use lib.Seq.{length-take-le, get_or-drop, take-nil, drop-nil}
use Rattle.reference.specs.Tape.{to_le_bytes, from_le_bytes}

-- a list of bytes
abbrev pub Bytes : List ℕ → Type 0
Bytes s = (i : ℕ) → get_or s i 0 < 256

pub bytes_drop : (n : ℕ) (s : List ℕ) → Bytes s → Bytes (drop n s)
bytes_drop n s h i = rw get_or-drop (h (n + i))

pub bytes_take : (n : ℕ) (s : List ℕ) → Bytes s → Bytes (take n s)
bytes_take zero s h i = omega arith
bytes_take (suc n) [] h i = omega arith
bytes_take (suc n) (x ∷ xs) h zero = h 0
bytes_take (suc n) (x ∷ xs) h (suc i) = bytes_take n xs (λ i. h (suc i)) i

pub to_length : (n v : ℕ) → length (to_le_bytes n v) ≡ n
unfolding to_le_bytes
to_length zero v = refl
to_length (suc n) v = ap suc (to_length n _)

pub from_to : (n v : ℕ) → v < 256 ^ n → from_le_bytes (to_le_bytes n v) ≡ v
unfolding to_le_bytes from_le_bytes
from_to zero v h = omega arith
from_to (suc n) v h = omega (arith, from_to n (v / 256) (omega arith))

to_from : (bs : List ℕ) → Bytes bs → to_le_bytes (length bs) (from_le_bytes bs) ≡ bs
unfolding to_le_bytes from_le_bytes
to_from [] h = refl
to_from (b ∷ bs) h =
    let low : (b + 256 * from_le_bytes bs) % 256 ≡ b = omega (arith, h 0) in
    let high : (b + 256 * from_le_bytes bs) / 256 ≡ from_le_bytes bs = omega (arith, h 0) in
    rw (low, high, to_from bs (λ i. h (suc i)))

pub to_take : (n : ℕ) (s : List ℕ) → Bytes s → n ≤ length s → to_le_bytes n (from_le_bytes (take n s)) ≡ take n s
to_take n s h le = rw (length-take-le n s le) at (to_from (take n s) (bytes_take n s h))

pub from-below : (bs : List ℕ) → Bytes bs → from_le_bytes bs < 256 ^ length bs
unfolding from_le_bytes
from-below [] h = omega arith
from-below (b ∷ bs) h = omega (arith, h 0, from-below bs (λ i. h (suc i)), pow-suc 256 (length bs))

-- by index, as code reads it
pub from_at : (n i : ℕ) (s : List ℕ) → from_le_bytes (take (suc n) (drop i s)) ≡ get_or s i 0 + 256 * from_le_bytes (take n (drop (suc i) s))
unfolding from_le_bytes
from_at n i [] = simp (drop-nil, take-nil)
from_at n zero (x ∷ xs) = refl
from_at n (suc i) (x ∷ xs) = from_at n i xs
