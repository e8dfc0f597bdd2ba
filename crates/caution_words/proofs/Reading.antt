-- The sets that are read from the bytes of the library's call are those that it wrote. Assumes nothing.
use Prim.Native.Nat.{ℕ, zero, suc, ◌+◌, ◌*◌, ◌/◌, ◌%◌, ◌<◌, ◌≤◌}
use native.Mathlib.Omega.{arith}
use mathlib.Core.Path.{◌≡◌, refl, sym, ap, ◌∙◌}
use mathlib.Core.Bool.{Bool, true, false}
use mathlib.Core.List.{List, [], ◌∷◌, flat_map}
use lib.Dec.{ltb}
use lib.ListN.{length, get_or}
use borrow.Author.Tests.{ltb-false}
use Rattle.reference.specs.Tape.{to_le_bytes}
use Rattle.cautions.specs.Cautions.{caution_bytes}
use Rattle.caution_words.specs.Sets.{set_at}

bytes-length : (sets : List ℕ) → length (caution_bytes sets) ≡ 2 * length sets
unfolding caution_bytes flat_map to_le_bytes
bytes-length [] = refl
bytes-length (s ∷ sets) = omega (arith, bytes-length sets)

low : (sets : List ℕ) (q : ℕ) → get_or (caution_bytes sets) (2 * q) 0 ≡ get_or sets q 0 % 256
unfolding caution_bytes flat_map to_le_bytes
low [] q = refl
low (s ∷ sets) zero = refl
low (s ∷ sets) (suc q) =
    let more : 2 * suc q ≡ suc (suc (2 * q)) = omega arith in
    ap (λ (n : ℕ). get_or (caution_bytes (s ∷ sets)) n 0) more ∙ low sets q

high : (sets : List ℕ) (q : ℕ) → get_or (caution_bytes sets) (2 * q + 1) 0 ≡ get_or sets q 0 / 256 % 256
unfolding caution_bytes flat_map to_le_bytes
high [] q = refl
high (s ∷ sets) zero = refl
high (s ∷ sets) (suc q) =
    let more : 2 * suc q + 1 ≡ suc (suc (2 * q + 1)) = omega arith in
    ap (λ (n : ℕ). get_or (caution_bytes (s ∷ sets)) n 0) more ∙ high sets q

past : (sets : List ℕ) (q : ℕ) → length sets ≤ q → get_or sets q 0 ≡ 0
past [] q h = refl
past (s ∷ sets) zero h = absurd (omega arith)
past (s ∷ sets) (suc q) h = past sets q (omega arith)

-- of line q
pub set_read : (sets : List ℕ) (q : ℕ) → get_or sets q 0 < 65536 → set_at (caution_bytes sets) q ≡ get_or sets q 0
set_read sets q h = go (ltb q (length (caution_bytes sets) / 2)) refl
  where
    go : (b : Bool) → ltb q (length (caution_bytes sets) / 2) ≡ b → set_at (caution_bytes sets) q ≡ get_or sets q 0
    go true e = rw e (omega (arith, low sets q, high sets q, h))
    go false e = rw e (sym (past sets q (omega (arith, ltb-false q (length (caution_bytes sets) / 2) e, bytes-length sets))))
