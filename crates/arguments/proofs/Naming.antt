-- Operands REG=VALUE: where the first = stands, and the pieces of an entry put one behind the other. Assumes nothing.
use Prim.Native.Nat.{ℕ, suc, ◌+◌, ◌%◌, ◌≤◌, ◌<◌}
use native.Mathlib.Omega.{arith}
use mathlib.Core.Bool.{Bool, true, false}
use mathlib.Core.Option.{none}
use mathlib.Core.Path.{◌≡◌, refl, sym, ap, ◌∙◌}
use Rattle.std.proofs.Common.{cond, not, eqb, if◌then◌else◌}
use Rattle.std.specs.List.{position_or_len, position}
use Rattle.std.specs.Option.{is_some, unwrap_or}
use Rattle.std.proofs.Common as std
use lib.Dec.{ltb}
use borrow.Author.Tests.{ltb-true, ltb-false}
use mathlib.Core.List.{List, [], ◌∷◌}
use lib.ListN.{length, take, drop, get_or, length-append, length-take}
use borrow.Author.Tests.{lt-ltb, le-ltb}
use Prim.Native.Nat.{◌-◌}
use mathlib.Core.Option.{Option}
use Rattle.laws.proofs.Parts.{to_end}
use Rattle.reference.specs.Options.{option_of}
use Rattle.words.specs.Numerals.{integer_in}
use Rattle.reference.specs.Control.{when◌then◌else◌, let_some◌else◌then◌}
use Rattle.reference.specs.Text.{Text}
use Rattle.reference.specs.Tape.{to_le_bytes}
use Rattle.reference.proofs.Cases.{by-if, by-some}
use Rattle.reference.proofs.LittleEndian.{to_length}
use Rattle.laws.proofs.Scans.{if-true, if-false}
use Rattle.std.specs.Int.{bytes_low_first}
use Rattle.text.specs.Cursor.{Puts}
use Rattle.text.specs.declared.cursor.Cursor.{Cursor}
use Rattle.text.proofs.Cursors.{puts_none, then_puts}
use Rattle.arguments.specs.Entries.{equals_at, entry_value, named_value, entry_bytes, IsEntry}

-- where the first = stands, as std's `position` says it
pub equals_is : (w : List ℕ) → equals_at w ≡ position_or_len (λ b. eqb b 61) w
unfolding equals_at when◌then◌else◌
equals_is [] = refl
equals_is (b ∷ bs) = either (eqb b 61) (equals_is bs)
  where
    either : (t : Bool) → equals_at bs ≡ position_or_len (λ b. eqb b 61) bs → (when t then 0 else suc (equals_at bs)) ≡ cond (not t) (1 + position_or_len (λ b. eqb b 61) bs) 0
    either true e = refl
    either false e = omega arith

-- the place of the first =
abbrev place : List ℕ → std.Option ℕ
place w = position (λ b. eqb b 61) w

by_place : (w : List ℕ) → place w ≡ cond (ltb (equals_at w) (length w)) (std.Some (equals_at w)) std.None
by_place w = rw (equals_is w) refl

-- no place is past the last byte
equals-short : (w : List ℕ) → equals_at w ≤ length w
unfolding equals_at when◌then◌else◌
equals-short [] = omega arith
equals-short (b ∷ bs) = either (eqb b 61) (equals-short bs)
  where
    either : (t : Bool) → equals_at bs ≤ length bs → (when t then 0 else suc (equals_at bs)) ≤ suc (length bs)
    either true h = omega arith
    either false h = omega arith

pub equals_or : (w : List ℕ) → unwrap_or (place w) (length w) ≡ equals_at w
equals_or w = rw (by_place w) (pick (ltb (equals_at w) (length w)) refl)
  where
    pick : (t : Bool) → ltb (equals_at w) (length w) ≡ t → unwrap_or (cond t (std.Some (equals_at w)) std.None) (length w) ≡ equals_at w
    pick true l = refl
    pick false l = omega (arith, ltb-false (equals_at w) (length w) l, equals-short w)

pub is_found : (w : List ℕ) → is_some (place w) ≡ ltb (equals_at w) (length w)
is_found w = ap is_some (by_place w) ∙ pick (ltb (equals_at w) (length w))
  where
    pick : (t : Bool) → is_some (cond t (std.Some (equals_at w)) std.None) ≡ t
    pick true = refl
    pick false = refl

pub found_at : (w : List ℕ) {n : ℕ} → place w ≡ std.Some n → (n ≡ equals_at w) × (n < length w)
found_at w {n} e = pick (ltb (equals_at w) (length w)) refl (sym (by_place w) ∙ e)
  where
    pick : (t : Bool) → ltb (equals_at w) (length w) ≡ t → cond t (std.Some (equals_at w)) std.None ≡ std.Some n → (n ≡ equals_at w) × (n < length w)
    pick true l f = let same : equals_at w ≡ n = cc in (sym same, omega (arith, ltb-true (equals_at w) (length w) l))
    pick false l f = cc

pub none_found : (w : List ℕ) → place w ≡ std.None → length w ≤ equals_at w
none_found w e = pick (ltb (equals_at w) (length w)) refl (sym (by_place w) ∙ e)
  where
    pick : (t : Bool) → ltb (equals_at w) (length w) ≡ t → cond t (std.Some (equals_at w)) std.None ≡ std.None → length w ≤ equals_at w
    pick true l f = cc
    pick false l f = ltb-false (equals_at w) (length w) l

pub entry_missing : (w : List ℕ) → place w ≡ std.None → entry_value w ≡ none
unfolding entry_value
entry_missing w e =
    by-if (λ (o : Option ℕ). o ≡ none) (λ t. refl) (λ t. if-false _ _ (le-ltb (equals_at w) (length w) (none_found w e)))

module _ (w : List ℕ) {n : ℕ} (e : place w ≡ std.Some n) where
  pub entry_long : 255 < n → entry_value w ≡ none
  unfolding entry_value
  entry_long l = if-true _ _ (lt-ltb 255 (equals_at w) (omega (arith, (found_at w e).0)))

  pub entry_behind : n ≤ 255 → entry_value w ≡ integer_in (drop (n + 1) w)
  unfolding entry_value
  entry_behind l =
      let f : (n ≡ equals_at w) × (n < length w) = found_at w e in
      if-false _ _ (le-ltb 255 (equals_at w) (omega (arith, f.0))) ∙ if-true _ _ (lt-ltb (equals_at w) (length w) (omega (arith, f.0, f.1)))
      ∙ ap (λ (k : ℕ). integer_in (drop (k + 1) w)) (sym f.0)

  -- what the code read behind the =
  pub entry_read : n ≤ 255 → (o : std.Option ℕ) → option_of o ≡ integer_in (take (length w - (n + 1)) (drop (n + 1) w)) → entry_value w ≡ option_of o
  entry_read l o r = entry_behind l ∙ ap integer_in (sym (to_end (n + 1) w)) ∙ sym r

  pub entry_is : n ≤ 255 → (o : std.Option ℕ) (v : ℕ) → option_of o ≡ integer_in (take (length w - (n + 1)) (drop (n + 1) w)) → o ≡ std.Some v
      → IsEntry w (take n w) v
  entry_is l o v r f =
      let at : (n ≡ equals_at w) × (n < length w) = found_at w e in
      record {
        value_is = entry_read l o r ∙ ap option_of f;
        name_is = ap (λ (k : ℕ). take k w) at.0;
        short = omega (arith, length-take n w);
        within = omega (arith, length-take n w);
      }

-- ---- how long an entry is

pub entry_length : (w : Text) → length (entry_bytes w) ≤ length w + 9
unfolding entry_bytes named_value
entry_length w =
    by-some (λ (t : Text). length t ≤ length w + 9) (λ e. omega arith)
    (λ v e. simp length-append (omega (arith, length-take (equals_at w) w, to_length 8 v)))

pub taken-length : (t : Bool) (w : Text) → length (if t then entry_bytes w else []) ≤ length w + 9
taken-length true w = entry_length w
taken-length false w = omega arith

-- ---- putting

pub entry_put : (w : Text) {name : Text} {v : ℕ} {p p' : Cursor} → IsEntry w name v → Puts p (named_value name v) p' → Puts p (entry_bytes w) p'
unfolding entry_bytes let_some◌else◌then◌
entry_put w f x = rw f.value_is (rw f.name_is at x)

pub entry_none : (w : Text) {p : Cursor} → entry_value w ≡ none → Puts p (entry_bytes w) p
unfolding entry_bytes let_some◌else◌then◌
entry_none w e = rw e puts_none

-- the lowest byte of a number below 256
pub low_byte : (n : ℕ) → n < 256 → get_or (bytes_low_first 0 8 n) 0 0 ≡ n
low_byte n h = let e : n % 256 ≡ n = omega arith in e

pub named_put : (name : Text) (v : ℕ) {b : ℕ} {p p₁ p₂ p₃ : Cursor} → b ≡ length name → p.at ≤ length p.out.now
    → Puts p (b ∷ []) p₁ → Puts p₁ name p₂ → Puts p₂ (to_le_bytes 8 v) p₃ → Puts p (named_value name v) p₃
unfolding named_value
named_put name v e h x y z = then_puts (then_puts (rw e at x) h y) h z
