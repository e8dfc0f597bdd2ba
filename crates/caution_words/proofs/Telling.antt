-- How long the words for a kind are, and words put kind after kind. Assumes nothing.
use Prim.Native.Nat.{ℕ, ◌+◌, ◌*◌, ◌≤◌, ◌<◌}
use native.Mathlib.Omega.{arith}
use native.Mathlib.Nat.{mul-le-mul_right}
use mathlib.Core.Path.{◌≡◌, refl, sym, ap, ◌∙◌}
use mathlib.Core.Bool.{Bool, true, false}
use mathlib.Core.List.{List, [], ◌∷◌, ◌++◌, append_assoc, append-nil, flat_map}
use lib.ListN.{length, take, length-append, length-take}
use Rattle.std.proofs.Common.{if◌then◌else◌}
use Rattle.reference.specs.Text.{Text}
use Rattle.caution_words.specs.declared.each.Caution.{Caution}
use Rattle.caution_words.specs.declared.each.Caution.TheVariants as caution
use Rattle.caution_words.specs.Told.{name_of, sentence_of, every, has, given, told_by, kind_line}

-- ---- how long they are

pub name-length : (k : Caution) → length (name_of k) ≤ 11
name-length caution.OddForm = omega arith
name-length caution.StillRead = omega arith
name-length caution.Overwritten = omega arith
name-length caution.CallMoved = omega arith
name-length caution.ReadMoved = omega arith
name-length caution.OtherWidth = omega arith
name-length caution.OtherText = omega arith
name-length caution.OddNumber = omega arith
name-length caution.Slot = omega arith
name-length caution.HandedOver = omega arith

pub sentence-length : (k : Caution) → length (sentence_of k) ≤ 240
sentence-length caution.OddForm = omega arith
sentence-length caution.StillRead = omega arith
sentence-length caution.Overwritten = omega arith
sentence-length caution.CallMoved = omega arith
sentence-length caution.ReadMoved = omega arith
sentence-length caution.OtherWidth = omega arith
sentence-length caution.OtherText = omega arith
sentence-length caution.OddNumber = omega arith
sentence-length caution.Slot = omega arith
sentence-length caution.HandedOver = omega arith

pub line-length : (k : Caution) → length (kind_line k) ≤ 400
unfolding kind_line
line-length k = simp length-append (omega (arith, name-length k, sentence-length k))

-- ---- one kind after the other

module _ (words : Caution → Text) (set : ℕ) where
  told_append : (ks more : List Caution) → told_by words set (ks ++ more) ≡ told_by words set ks ++ told_by words set more
  unfolding told_by flat_map
  told_append [] more = refl
  told_append (k ∷ ks) more =
      ap (λ (r : Text). given words set k ++ r) (told_append ks more)
      ∙ sym (append_assoc (given words set k) (told_by words set ks) (told_by words set more))

  told_one : (k : Caution) → told_by words set (k ∷ []) ≡ given words set k
  unfolding told_by flat_map
  told_one k = append-nil (given words set k)

  pub told_none : [] ≡ told_by words set []
  unfolding told_by flat_map
  told_none = refl

  -- those of the kinds before i, and of the kind there
  pub told_next : (ks : List Caution) (i : ℕ) (k : Caution) → take (i + 1) ks ≡ take i ks ++ (k ∷ [])
      → told_by words set (take i ks) ++ given words set k ≡ told_by words set (take (i + 1) ks)
  told_next ks i k e =
      rw e (sym (told_append (take i ks) (k ∷ []) ∙ ap (λ (r : Text). told_by words set (take i ks) ++ r) (told_one k)))

  given-length : (n : ℕ) (b : Bool) (t : Text) → length t ≤ n → length (if b then t else []) ≤ n
  given-length n true t h = h
  given-length n false t h = omega arith

  pub told-length : (n : ℕ) → ((k : Caution) → length (words k) ≤ n) → (ks : List Caution) → length (told_by words set ks) ≤ length ks * n
  unfolding told_by flat_map
  told-length n f [] = omega arith
  told-length n f (k ∷ ks) =
      rw length-append (omega (arith, given-length n (has set k) (words k) (f k), told-length n f ks))

  -- what the kinds before i leave of the room for all has room for one more
  pub room_told : (n : ℕ) → ((k : Caution) → length (words k) ≤ n) → (i : ℕ) → i < 10 → length (told_by words set (take i every)) + n ≤ 10 * n
  room_told n f i h =
      let short : length (take i every) ≤ i = omega (arith, length-take i every) in
      omega (arith, told-length n f (take i every), mul-le-mul_right {m = length (take i every)} {n = i} n short, mul-le-mul_right {m = i + 1} {n = 10} n (omega arith))

  -- of all kinds
  pub told_all : (i : ℕ) → i ≡ 10 → told_by words set (take i every) ≡ told_by words set every
  told_all i e = rw e refl
