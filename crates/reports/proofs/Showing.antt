-- Bytes put one behind the other as they are shown are the name as it is shown, or as a text of JSON has it. Assumes nothing.
use Prim.Native.Nat.{ℕ, ◌+◌, ◌*◌, ◌≤◌, ◌<◌}
use native.Mathlib.Omega.{arith}
use native.Mathlib.Numerals.{add-one}
use Rattle.std.proofs.Common.{Bool, true, false, ◌||◌, ltb, eqb, if◌then◌else◌}
use mathlib.Core.Path.{◌≡◌, refl, sym, ap, ◌∙◌}
use mathlib.Core.List.{[], ◌∷◌, ◌++◌, append_assoc, append-nil, flat_map}
use lib.ListN.{length, take, get_or, length-append, length-take}
use lib.Seq.{take-suc, take-length}
use Rattle.reference.specs.Text.{Text}
use Rattle.reports.specs.Reports.{visible_byte, quoted_byte}

-- ---- what each byte is shown as

module _ (f : ℕ → Text) where
  shown_append : (s t : Text) → flat_map f (s ++ t) ≡ flat_map f s ++ flat_map f t
  unfolding flat_map
  shown_append [] t = refl
  shown_append (b ∷ s) t = ap (λ (r : Text). f b ++ r) (shown_append s t) ∙ sym (append_assoc (f b) (flat_map f s) (flat_map f t))

  shown_one : (b : ℕ) → flat_map f (b ∷ []) ≡ f b
  unfolding flat_map
  shown_one b = append-nil (f b)

  pub shown_next : (t : Text) (i : ℕ) → i < length t → flat_map f (take i t) ++ f (get_or t i 0) ≡ flat_map f (take (i + 1) t)
  shown_next t i h =
      let b : ℕ = get_or t i 0 in
      rw (add-one, take-suc t i 0 h) (sym (shown_append (take i t) (b ∷ []) ∙ ap (λ (r : Text). flat_map f (take i t) ++ r) (shown_one b)))

  pub all_shown : (t : Text) (i : ℕ) → i ≡ length t → flat_map f (take i t) ≡ flat_map f t
  all_shown t i e = rw (e, take-length) refl

-- ---- how long that is

if_short : (n : ℕ) (t : Bool) (a b : Text) → length a ≤ n → length b ≤ n → length (if t then a else b) ≤ n
if_short n true a b h k = h
if_short n false a b h k = k

visible_byte-length : (b : ℕ) → length (visible_byte b) ≤ 4
visible_byte-length b = if_short 4 (ltb b 32 || ltb 126 b || eqb b 92) _ _ (omega arith) (omega arith)

quoted_byte-length : (b : ℕ) → length (quoted_byte b) ≤ 6
quoted_byte-length b =
    if_short 6 (eqb b 34 || eqb b 92) _ _ (omega arith) (if_short 6 (ltb b 32 || ltb 126 b) _ _ (omega arith) (omega arith))

visible-length : (t : Text) → length (flat_map visible_byte t) ≤ 4 * length t
unfolding flat_map
visible-length [] = omega arith
visible-length (b ∷ t) = rw length-append (omega (arith, visible_byte-length b, visible-length t))

quoted-length : (t : Text) → length (flat_map quoted_byte t) ≤ 6 * length t
unfolding flat_map
quoted-length [] = omega arith
quoted-length (b ∷ t) = rw length-append (omega (arith, quoted_byte-length b, quoted-length t))

-- what the bytes before i leave of the room for a name has room for one more
pub room_shown : (t : Text) (i : ℕ) → i < length t → length (flat_map visible_byte (take i t)) + 4 ≤ 4 * length t
room_shown t i h = omega (arith, visible-length (take i t), length-take i t)

pub room_quoted : (t : Text) (i : ℕ) → i < length t → length (flat_map quoted_byte (take i t)) + 6 ≤ 6 * length t
room_quoted t i h = omega (arith, quoted-length (take i t), length-take i t)
