-- The room that is free behind the used marks, and the need of lines, added up until it is too much. Assumes nothing.
use Prim.Native.Nat.{ℕ, ◌+◌, ◌-◌, ◌*◌, ◌≤◌, ◌<◌, zero-le}
use native.Mathlib.Omega.{arith}
use native.Mathlib.Decide.{dec_lt}
use native.Mathlib.Numerals.{add-one}
use mathlib.Core.Logic.{by_cases}
use mathlib.Core.Path.{◌≡◌, refl, sym, ap, ◌∙◌}
use mathlib.Core.Bool.{Bool, true, false}
use mathlib.Core.List.{List, [], ◌∷◌}
use lib.Dec.{ltb}
use lib.ListN.{length, get_or, drop, length-take, drop_of_length-le}
use lib.Seq.{drop-cons}
use borrow.Author.Tests.{lt-ltb, le-ltb, ltb-true}
use Rattle.std.specs.Prelude.{sum_by}
use Rattle.std.proofs.lemmas.List.Sums.{sum_by-cons}
use Rattle.reference.specs.Text.{Text}
use Rattle.lines.specs.Words.{len_of}
use Rattle.lines.specs.Lines.{first_of, count_of, part_of}
use Rattle.lines.proofs.words.Tokens.{len_below}
use Rattle.lines.proofs.words.Lines.{count-below}
use Rattle.lines.specs.declared.texts.Size.{Size}
use Rattle.join.specs.Patching.{words_room, line_need, needs, behind, free, Spare}

-- ---- the room of words

pub room_is : (ws : List ℕ) → words_room ws ≡ sum_by len_of ws + 24 * length ws
unfolding words_room
room_is [] = refl
room_is (w ∷ ws) = omega (arith, room_is ws, sum_by-cons len_of w ws)

pub text_most : (ws : List ℕ) → sum_by len_of ws ≤ 65535 * length ws
text_most [] = zero-le
text_most (w ∷ ws) = omega (arith, text_most ws, sum_by-cons len_of w ws, len_below w)

pub part-short : (words : List ℕ) (l : ℕ) → length (part_of words l) < 2048
part-short words l = omega (arith, length-take (count_of l) (drop (first_of l) words), count-below l)

pub line_most : (words : List ℕ) (l : ℕ) → words_room (part_of words l) ≤ 134199273
line_most words l = omega (arith, room_is (part_of words l), text_most (part_of words l), part-short words l)

-- ---- the need of lines

module _ (words : List ℕ) (source : ℕ) (ls : List ℕ) (k : ℕ) where
  need_next : k < length ls → needs words source (drop k ls) ≡ line_need words source (get_or ls k 0) + needs words source (drop (k + 1) ls)
  unfolding needs
  need_next h = rw (add-one k, drop-cons ls k 0 h)

  need_end : length ls ≤ k → needs words source (drop k ls) ≡ 0
  unfolding needs
  need_end h = rw (drop_of_length-le ls h)

less-rest : (n rest left : ℕ) → n < left → ltb rest (left - n) ≡ ltb (n + rest) left
less-rest n rest left h = by_cases (dec_lt rest (left - n))
    (λ b. lt-ltb rest (left - n) b ∙ sym (lt-ltb (n + rest) left (omega arith)))
    (λ b. le-ltb rest (left - n) (omega arith) ∙ sym (le-ltb (n + rest) left (omega arith)))

module _ (words : List ℕ) (source : ℕ) (ls : List ℕ) (k left n : ℕ) (inv : ltb (needs words source (drop k ls)) left ≡ ltb (needs words source ls) n) where
  pub need_short : k < length ls → left ≤ line_need words source (get_or ls k 0) → false ≡ ltb (needs words source ls) n
  need_short b h = sym (le-ltb (needs words source (drop k ls)) left (omega (arith, need_next words source ls k b))) ∙ inv

  pub need_less : k < length ls → line_need words source (get_or ls k 0) < left
      → ltb (needs words source (drop (k + 1) ls)) (left - line_need words source (get_or ls k 0)) ≡ ltb (needs words source ls) n
  need_less b h = less-rest (line_need words source (get_or ls k 0)) (needs words source (drop (k + 1) ls)) left h ∙ ap (λ (m : ℕ). ltb m left) (sym (need_next words source ls k b)) ∙ inv

  pub need_all : length ls ≤ k → ltb 0 left ≡ ltb (needs words source ls) n
  need_all h = ap (λ (m : ℕ). ltb m left) (sym (need_end words source ls k h)) ∙ inv

-- ---- enough

pub enough : {r : Bool} (n m : ℕ) → r ≡ ltb n m → r ≡ true → n < m
enough n m is left = ltb-true n m (sym is ∙ left)

pub is_spare : {area : Text} {tokens : List ℕ} {size : Size} {n m : ℕ} → n < m → m ≤ free (length area) (length tokens) size → Spare area tokens size n
unfolding free behind
is_spare h b = record { text_fits = omega arith; text_short = omega arith; words_fit = omega arith; words_short = omega arith }

-- only the lengths matter
pub spare_as : {area : Text} {tokens : List ℕ} {size : Size} {n : ℕ} → Spare area tokens size n → {area' : Text} {tokens' : List ℕ} → length area' ≡ length area → length tokens' ≡ length tokens
    → Spare area' tokens' size n
spare_as s ea et =
    record { text_fits = omega (arith, s.text_fits); text_short = s.text_short; words_fit = omega (arith, s.words_fit); words_short = s.words_short }
