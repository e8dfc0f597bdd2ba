-- The first word of a slice, and what is left behind it: each turn of a loop over words. Assumes nothing.
use Prim.Native.Nat.{ℕ, suc, ◌+◌, ◌-◌, ◌≤◌, ◌<◌}
use native.Mathlib.Omega.{arith}
use native.Mathlib.Decide.{dec_lt, ℕ_discrete}
use native.Mathlib.Numerals.{add-one}
use mathlib.Core.Path.{◌≡◌, refl, sym, ap, ◌∙◌}
use mathlib.Core.Logic.{by_cases}
use mathlib.Core.Bool.{Bool, true, false, not as flip, true≢false}
use mathlib.Core.List.{List, [], ◌∷◌, ◌++◌}
use lib.ListN.{length, take, drop, get_or, take-append-drop, length-take, length-drop, drop_of_length-le}
use lib.Seq.{drop-cons, drop-drop, get_or-take, get_or-drop, take_all}
use lib.Dec.{eqb}
use borrow.Author.Tests.{eq-eqb, ne_eqb}
use Rattle.std.specs.List.{prefix_len}
use Rattle.std.proofs.lemmas.List.Sums.{prefix_len-le-length, prefix_len_passes, prefix_len_stops}
use Rattle.reference.specs.Control.{when◌then◌else◌}
use Rattle.reference.specs.Text.{Text, ◌≟◌}
use Rattle.laws.proofs.Scans.{if-true, if-false}
use Rattle.words.specs.Splitting.{onto, split, number_of, EndsAt}

abbrev NoZero : List ℕ → Type 0
NoZero w = (i : ℕ) → i < length w → get_or w i 0 ≡ 0 → ⊥

tail_of : (b : ℕ) (w : List ℕ) → NoZero (b ∷ w) → NoZero w
tail_of b w n i h = n (suc i) (omega arith)

word_then : (w rest : List ℕ) → NoZero w → split (w ++ 0 ∷ rest) ≡ w ∷ split rest
unfolding split onto when◌then◌else◌
word_then [] rest n = refl
word_then (b ∷ w) rest n = rw (ne_eqb b 0 (n 0 (omega arith)), word_then w rest (tail_of b w n))

word-last : (b : ℕ) (w : List ℕ) → NoZero (b ∷ w) → split (b ∷ w) ≡ (b ∷ w) ∷ []
unfolding split onto when◌then◌else◌
word-last b [] n = rw (ne_eqb b 0 (n 0 (omega arith)))
word-last b (x ∷ w) n = rw (ne_eqb b 0 (n 0 (omega arith)), word-last x w (tail_of b (x ∷ w) n))

word-only : (w : List ℕ) → 0 < length w → NoZero w → split w ≡ w ∷ []
word-only [] h n = absurd (omega arith)
word-only (b ∷ w) h n = word-last b w n

module _ (words : List ℕ) {at e : ℕ} (h : at < length words) (ends : EndsAt words at e) where
  word : List ℕ
  word = take (e - at) (drop at words)

  no_zero : NoZero word
  unfolding word
  no_zero i l z =
      let short : i < e - at = omega (arith, l, length-take (e - at) (drop at words)) in
      ends.before (at + i) (omega arith) (omega (arith, ends.behind))
      (sym (get_or-drop at words i 0) ∙ sym (get_or-take (e - at) (drop at words) i 0 short) ∙ z)

  rest : drop (e - at) (drop at words) ≡ drop e words
  rest =
      let s : at + (e - at) ≡ e = omega (arith, ends.behind) in
      drop-drop (e - at) at words ∙ ap (λ (n : ℕ). drop n words) s

  pub first_word : split (drop at words) ≡ take (e - at) (drop at words) ∷ split (drop (e + 1) words)
  unfolding word split
  first_word =
      by_cases (dec_lt e (length words))
      (λ l.
      let front : word ++ drop e words ≡ drop at words = rw rest at (take-append-drop (e - at) (drop at words)) in
      let zero-there : drop e words ≡ 0 ∷ drop (e + 1) words =
      drop-cons words e 0 l ∙ ap (λ (b : ℕ). b ∷ drop (suc e) words) (ends.there l) ∙ ap (λ (n : ℕ). 0 ∷ drop n words) (sym (add-one e)) in
      ap split (sym front ∙ ap (λ (t : List ℕ). word ++ t) zero-there) ∙ word_then word (drop (e + 1) words) no_zero)
      (λ l.
      let long : length (drop at words) ≤ e - at = omega (arith, length-drop at words, ends.within) in
      let whole : take (e - at) (drop at words) ≡ drop at words = take_all (e - at) (drop at words) long in
      let none : drop (e + 1) words ≡ [] = drop_of_length-le words {i = e + 1} (omega arith) in
      let some_byte : 0 < length (drop at words) = omega (arith, length-drop at words) in
      let n : NoZero (drop at words) = rw whole at no_zero in
      word-only (drop at words) some_byte n ∙ rw (whole, none) refl)

  -- a turn of the search
  pub found_word : (w : Text) → (take (e - at) (drop at words) ≟ w) ≡ true → number_of (split (drop at words)) w ≡ 0
  unfolding number_of
  found_word w f = ap (λ (ws : List Text). number_of ws w) first_word ∙ if-true _ _ f

  pub next_word : (w : Text) → (take (e - at) (drop at words) ≟ w) ≡ false
      → number_of (split (drop at words)) w ≡ suc (number_of (split (drop (e + 1) words)) w)
  unfolding number_of
  next_word w f = ap (λ (ws : List Text). number_of ws w) first_word ∙ if-false _ _ f

pub no_word : (words : List ℕ) (at : ℕ) → length words ≤ at → split (drop at words) ≡ []
unfolding split
no_word words at h = rw (drop_of_length-le words h)

-- where a word ends, as the bytes before the first 0 tell it
not-zero : (b : ℕ) → flip (eqb b 0) ≡ true → b ≡ 0 → ⊥
not-zero b e z = true≢false (sym e ∙ ap flip (eq-eqb b 0 z))

is_zero : (b : ℕ) → flip (eqb b 0) ≡ false → b ≡ 0
is_zero b e = by_cases (ℕ_discrete b 0) (λ z. z) (λ n. absurd (true≢false (sym (ap flip (ne_eqb b 0 n)) ∙ e)))

pub ends : (words : List ℕ) (at : ℕ) → at ≤ length words → EndsAt words at (at + prefix_len (λ b. flip (eqb b 0)) (drop at words))
ends words at h =
    let p : ℕ → Bool = λ b. flip (eqb b 0) in
    let n : ℕ = prefix_len p (drop at words) in
    let most : n ≤ length (drop at words) = prefix_len-le-length p (drop at words) in
    let total : length (drop at words) ≡ length words - at = length-drop at words in
    record {
      behind = omega arith;
      within = omega (arith, most, total);
      before = λ i l k z.
          (let here : at + (i - at) ≡ i = omega arith in
          not-zero (get_or (drop at words) (i - at) 0) (prefix_len_passes p (drop at words) (i - at) 0 (omega arith))
          (get_or-drop at words (i - at) 0 ∙ ap (λ (j : ℕ). get_or words j 0) here ∙ z));
      there = λ l. sym (get_or-drop at words n 0) ∙ is_zero (get_or (drop at words) n 0) (prefix_len_stops p (drop at words) 0 (omega (arith, total)));
    }
