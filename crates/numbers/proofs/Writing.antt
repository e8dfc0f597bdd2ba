-- The text of a number, put piece by piece. Assumes nothing.
use Rattle.std.proofs.Common.{◌≡◌, ℕ, ◌/◌, ◌%◌, ◌^◌, ◌<◌, ◌≤◌, [], ◌∷◌, ◌++◌, length, ℤ, refl, ap}
use Rattle.std.proofs.Common.{arith, length-append, pos, negsuc, nat_abs, true, false, w64, SFits, to_z, of_z}
use lib.Signed.{lt_z}
use borrow.Author.Tests.{ltb-true}
use mir.ValLaws.{to_z-of_z}
use Rattle.reference.specs.Text.{Text}
use Rattle.reference.specs.Numbers.{digit_byte, show_natural, show}
use Rattle.text.specs.declared.cursor.Cursor.{Cursor}
use Rattle.text.specs.Cursor.{Fits, Puts}
use Rattle.text.proofs.Cursors.{puts_none, puts_as, then_puts, room_left}
use Rattle.numbers.specs.Writing.{hexadecimal}
use Rattle.numbers.proofs.Digits.{hexadecimal_one, hexadecimal_more, natural_small, natural_large}

-- ---- a text of which a front, perhaps nothing, is put

pub record Begun (p : Cursor) (rest t : Text) (p₁ : Cursor) : Type 0 where
  pub front : Text
  pub puts : Puts p front p₁
  pub all : t ≡ front ++ rest

pub none_begun : {p : Cursor} {rest t : Text} → t ≡ rest → Begun p rest t p
none_begun e = record { front = []; puts = puts_none; all = e }

module _ {p p₁ : Cursor} {rest t : Text} (b : Begun p rest t p₁) (h : Fits p (length t)) where
  pub room_rest : Fits p₁ (length rest)
  room_rest = room_left b.puts (length rest) (omega (arith, ap length b.all, length-append b.front rest))

  pub rest_put : {p₂ : Cursor} → Puts p₁ rest p₂ → Puts p t p₂
  rest_put w = puts_as (then_puts b.puts (omega arith) w) (rw b.all refl)

-- ---- the digits in front of the last, and the mark of a hexadecimal number

module _ {v d : ℕ} (e : d ≡ digit_byte (v % 16)) {p : Cursor} where
  pub digits_begun : {p₁ : Cursor} → 16 ≤ v → v < 2 ^ 64 → Puts p (hexadecimal (v / 16)) p₁ → Begun p (d ∷ []) (hexadecimal v) p₁
  digits_begun l h w = record { front = hexadecimal (v / 16); puts = w; all = rw e (hexadecimal_more v l h) }

  pub no-digit_begun : v < 16 → Begun p (d ∷ []) (hexadecimal v) p
  no-digit_begun h = none_begun (rw e (hexadecimal_one v h))

module _ (v : ℕ) {p : Cursor} where
  pub mark_begun : {p₁ : Cursor} → 10 ≤ v → Puts p (48 ∷ 120 ∷ []) p₁ → Begun p (hexadecimal v) (show_natural v) p₁
  mark_begun l w = record { front = 48 ∷ 120 ∷ []; puts = w; all = natural_large v l }

  pub no-mark_begun : v < 10 → Begun p (hexadecimal v) (show_natural v) p
  no-mark_begun h = none_begun (natural_small v h)

-- ---- the sign: b is the number z without it, as the machine reads z

module _ (z : ℤ) (f : SFits w64 z) {b : ℕ} (e : b ≡ nat_abs (to_z w64 (of_z w64 z))) {p : Cursor} where
  pub sign_begun : {p₁ : Cursor} → lt_z (to_z w64 (of_z w64 z)) (pos 0) ≡ true → Puts p (45 ∷ []) p₁ → Begun p (show_natural b) (show z) p₁
  unfolding show
  sign_begun h w = record { front = 45 ∷ []; puts = w; all = by z (rw (to_z-of_z w64 z f) at h) (rw (to_z-of_z w64 z f) at e) }
    where
      by : (z : ℤ) → lt_z z (pos 0) ≡ true → b ≡ nat_abs z → show z ≡ (45 ∷ []) ++ show_natural b
      by (pos n) h e = absurd (omega (arith, ltb-true n 0 h))
      by (negsuc n) h e = rw e refl

  pub no-sign_begun : lt_z (to_z w64 (of_z w64 z)) (pos 0) ≡ false → Begun p (show_natural b) (show z) p
  unfolding show
  no-sign_begun h = none_begun (by z (rw (to_z-of_z w64 z f) at h) (rw (to_z-of_z w64 z f) at e))
    where
      by : (z : ℤ) → lt_z z (pos 0) ≡ false → b ≡ nat_abs z → show z ≡ show_natural b
      by (pos n) h e = rw e refl
      by (negsuc n) h e = cc
