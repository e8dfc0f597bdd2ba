-- Escaped bytes put one behind the other are the escaped text. Assumes nothing.
use Rattle.std.proofs.Common.{◌≡◌, ℕ, ◌+◌, ◌*◌, ◌≤◌, ◌<◌, [], ◌∷◌, ◌++◌, length, take, get_or, refl, sym, ap, ◌∙◌, arith, add-one, length-take}
use mathlib.Core.List.{flat_map}
use lib.Seq.{take-suc, take-length}
use borrow.Author.Tests.{ne_eqb}
use Rattle.reference.specs.Control.{when◌then◌else◌}
use Rattle.reference.specs.Text.{Text, bytes}
use Rattle.text.specs.Cursor.{Puts}
use Rattle.text.specs.declared.cursor.Cursor.{Cursor}
use Rattle.page.specs.Escaping.{entity, escaped}
use Rattle.page.proofs.Escaped.{escaped-length, escaped_append, escaped_one}

-- ---- a byte

module _ {b : ℕ} {p p' : Cursor} where
  pub is_amp : b ≡ 38 → Puts p (bytes "&amp;") p' → Puts p (entity b) p'
  unfolding entity when◌then◌else◌
  is_amp e w = rw e w

  pub is_lt : b ≡ 60 → Puts p (bytes "&lt;") p' → Puts p (entity b) p'
  unfolding entity when◌then◌else◌
  is_lt e w = rw e w

  pub is_gt : b ≡ 62 → Puts p (bytes "&gt;") p' → Puts p (entity b) p'
  unfolding entity when◌then◌else◌
  is_gt e w = rw e w

  pub is_quot : b ≡ 34 → Puts p (bytes "&quot;") p' → Puts p (entity b) p'
  unfolding entity when◌then◌else◌
  is_quot e w = rw e w

  pub is_apos : b ≡ 39 → Puts p (bytes "&#39;") p' → Puts p (entity b) p'
  unfolding entity when◌then◌else◌
  is_apos e w = rw e w

  pub is_plain : (b ≡ 38 → ⊥) → (b ≡ 60 → ⊥) → (b ≡ 62 → ⊥) → (b ≡ 34 → ⊥) → (b ≡ 39 → ⊥) → Puts p (b ∷ []) p' → Puts p (entity b) p'
  unfolding entity when◌then◌else◌
  is_plain a l g q o w = rw (ne_eqb b 38 a, ne_eqb b 60 l, ne_eqb b 62 g, ne_eqb b 34 q, ne_eqb b 39 o) w

pub ruleset entities = (is_amp, is_lt, is_gt, is_quot, is_apos, is_plain)

-- ---- a text, byte by byte

pub none_escaped : [] ≡ escaped []
unfolding escaped flat_map
none_escaped = refl

-- what the bytes before i leave of the room for a text has room for one more
pub room_escaped : (t : Text) (i : ℕ) → i < length t → length (escaped (take i t)) + 6 ≤ 6 * length t
room_escaped t i h = omega (arith, escaped-length (take i t), length-take i t)

pub escaped_next : (t : Text) (i : ℕ) → i < length t → escaped (take i t) ++ entity (get_or t i 0) ≡ escaped (take (i + 1) t)
escaped_next t i h =
    let b : ℕ = get_or t i 0 in
    rw (add-one, take-suc t i 0 h)
    (sym (escaped_append (take i t) (b ∷ []) ∙ ap (λ (r : Text). escaped (take i t) ++ r) (escaped_one b)))

pub all_escaped : (t : Text) (i : ℕ) → i ≡ length t → escaped (take i t) ≡ escaped t
all_escaped t i e = rw (e, take-length) refl
