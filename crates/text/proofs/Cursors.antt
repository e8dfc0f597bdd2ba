-- Texts put one after the other into the slice that a cursor holds, and the lowest bytes of a number. Assumes nothing.
use Rattle.std.proofs.Common.{◌≡◌, ℕ, zero, suc, ◌+◌, ◌-◌, ◌/◌, ◌%◌, ◌^◌, ◌<◌, ◌≤◌, List, [], ◌∷◌, ◌++◌, length, take, refl, sym, ap, ◌∙◌, arith, length-append}
use Rattle.std.proofs.Math.Nat.{div-div-eq-div-mul, pow-suc, div-one}
use Rattle.std.proofs.Math.Seq.{paste, paste-zero}
use Rattle.std.proofs.lemmas.List.Edits.{length-paste, paste-paste}
use Rattle.std.specs.Int.{bytes_low_first, byte_at}
use Rattle.reference.specs.Text.{Text}
use Rattle.reference.specs.Tape.{to_le_bytes}
use Rattle.text.specs.Cursor.{Written, Fits, Puts}
use Rattle.text.specs.declared.cursor.Cursor.{Cursor}

-- ---- one text after the other

module _ {out out₁ : Text} {at end : ℕ} {s : Text} (w : Written out at s out₁ end) where
  -- the slice keeps its length
  pub written-length : at + length s ≤ length out → length out₁ ≡ length out
  written-length h = ap length w.bytes_are ∙ length-paste out at s (length s) h (omega arith)

  pub written-then : {t out₂ : Text} {end₂ : ℕ} → at ≤ length out → Written out₁ end t out₂ end₂ → Written out at (s ++ t) out₂ end₂
  written-then {t} h x =
      let y : paste out₁ end t (length t) ≡ paste (paste out at s (length s)) (at + length s) t (length t) = rw (w.bytes_are, w.end_is) refl in
      record {
        bytes_are = x.bytes_are ∙ y ∙ paste-paste out at s t (length s) (length t) refl refl h ∙ rw length-append refl;
        end_is = rw length-append (omega arith);
      }

pub puts_none : {p : Cursor} → Puts p [] p
puts_none {p} = record { written = record { bytes_are = paste-zero p.out.now p.at []; end_is = omega arith }; lent = refl }

module _ {p p₁ : Cursor} {s : Text} (w : Puts p s p₁) where
  pub then_puts : {p₂ : Cursor} {t : Text} → p.at ≤ length p.out.now → Puts p₁ t p₂ → Puts p (s ++ t) p₂
  then_puts h x = record { written = written-then w.written h x.written; lent = x.lent ∙ w.lent }

  -- the same text in other words
  pub puts_as : {t : Text} → s ≡ t → Puts p t p₁
  puts_as e = rw e at w

  -- behind the text there is still room for what fitted behind it
  pub room_left : (n : ℕ) → Fits p (length s + n) → Fits p₁ n
  room_left n h = omega (arith, w.written.end_is, written-length w.written (omega arith))

  -- at the front of a slice: what a cursor that began there has put
  pub at_front : {out out₁ : Text} → p.out.now ≡ out → p.at ≡ 0 → p₁.out.now ≡ out₁ → Written out 0 s out₁ p₁.at
  at_front e f g = rw (e, f, g) at w.written

-- ---- the lowest bytes of a number

from-byte : (i k n : ℕ) → bytes_low_first i k n ≡ to_le_bytes k (n / 256 ^ i)
unfolding to_le_bytes
from-byte i zero n = refl
from-byte i (suc k) n =
    let next : n / 256 ^ suc i ≡ n / 256 ^ i / 256 = ap (λ (m : ℕ). n / m) (pow-suc 256 i) ∙ sym (div-div-eq-div-mul n (256 ^ i) 256) in
    let low : byte_at i n ≡ n / 256 ^ i % 256 = first i in
    λ j. low j ∷ (from-byte (suc i) k n ∙ ap (to_le_bytes k) next) j
  where
    first : (i : ℕ) → byte_at i n ≡ n / 256 ^ i % 256
    first zero = let one : n / 256 ^ 0 ≡ n = div-one n in rw one
    first (suc i) = refl

take-low : (n i k v : ℕ) → n ≤ k → take n (bytes_low_first i k v) ≡ bytes_low_first i n v
take-low zero i k v h = refl
take-low (suc n) i zero v h = absurd (omega arith)
take-low (suc n) i (suc k) v h = ap (λ (r : List ℕ). byte_at i v ∷ r) (take-low n (suc i) k v (omega arith))

-- the lowest n bytes of eight
pub le_front : (n v : ℕ) → n ≤ 8 → take n (bytes_low_first 0 8 v) ≡ to_le_bytes n v
le_front n v h =
    let one : v / 256 ^ 0 ≡ v = div-one v in
    take-low n 0 8 v h ∙ from-byte 0 n v ∙ ap (to_le_bytes n) one

-- the first of the bytes that are left, and the others
pub le_next : (n k v : ℕ) → k < n → (v % 256 ∷ []) ++ to_le_bytes (n - (k + 1)) (v / 256) ≡ to_le_bytes (n - k) v
unfolding to_le_bytes
le_next n k v h = let more : suc (n - (k + 1)) ≡ n - k = omega arith in ap (λ (m : ℕ). to_le_bytes m v) more

-- none are left
pub le_none : (n k v : ℕ) → n ≤ k → to_le_bytes (n - k) v ≡ []
unfolding to_le_bytes
le_none n k v h = let none : n - k ≡ 0 = omega arith in ap (λ (m : ℕ). to_le_bytes m v) none
