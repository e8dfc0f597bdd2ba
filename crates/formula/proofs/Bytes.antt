-- The text bytes that are left at a place, which fall at each call of the evaluators: they fall wherever the lexemes do. And a place in the line is known by the lexemes
-- that are left there. Assumes nothing.
use Rattle.std.proofs.Common.{◌≡◌, ℕ, zero, suc, ◌+◌, ◌-◌, ◌<◌, ◌≤◌, List, ◌∷◌, length, get_or, drop, sum_by, sym, ap, eq-eqb, ne_eqb, ◌∙◌, add-one, arith, drop-cons, length-append, length-drop}
use Rattle.std.proofs.lemmas.Bool.{cases_order, cases_lt}
use Rattle.std.proofs.lemmas.List.Sums.{sum_by-cons}
use mathlib.Core.Logic.{⊎_elim, by_cases}
use native.Mathlib.Decide.{ℕ_discrete}
use Rattle.reference.specs.Text.{Text}
use Rattle.reference.specs.Listing.{is, Punct}
use Rattle.reference.specs.Evaluators.{Lexeme, sign, lexemes_of}
use Rattle.laws.proofs.Scans.{if-true, if-false}
use lib.ListN.{length-map}
use Rattle.lines.specs.Words.{kind_of, len_of, text_of, token_of, tokens_of, Points}
use Rattle.lines.proofs.words.Tokens.{text_length}
use Rattle.formula.specs.Places.{left, size_of, Placed, InLine, Readable}
use Rattle.formula.proofs.Left.{drop_past, punct-lexemes, One, a_register, a_number, a_junk, one_of, left_end, left_at, placed, placed-whole}

-- the text bytes of the words from the word k on, without the first b
abbrev pub bytes_left : List ℕ → ℕ → ℕ → ℕ
bytes_left line k b = sum_by len_of (drop k line) - b

-- a token that is no Punct is one lexeme, whatever its text
token-size : (tape area : Text) (w : ℕ) → Points tape area w → 1 ≤ len_of w → (length (lexemes_of (token_of tape area w)) ≡ size_of w) × (size_of w ≤ len_of w)
token-size tape area w p some = by_cases (ℕ_discrete (kind_of w) Punct) punct other
  where
    punct : kind_of w ≡ Punct → (length (lexemes_of (token_of tape area w)) ≡ size_of w) × (size_of w ≤ len_of w)
    punct e =
        let size : size_of w ≡ len_of w = unfold size_of in if-true _ _ (eq-eqb _ _ e) in
        let long : length (lexemes_of (token_of tape area w)) ≡ length (text_of tape area w) =
        ap {A = List Lexeme} length (punct-lexemes (token_of tape area w) (unfold is in eq-eqb _ _ e)) ∙ length-map (text_of tape area w) sign in
        (omega (arith, size, long, text_length p), omega (arith, size))

    other : (kind_of w ≡ Punct → ⊥) → (length (lexemes_of (token_of tape area w)) ≡ size_of w) × (size_of w ≤ len_of w)
    other n =
        let size : size_of w ≡ 1 = unfold size_of in if-false _ _ (ne_eqb _ _ n) in
        (omega (arith, size, one (one_of (token_of tape area w) (unfold is in ne_eqb _ _ n))), omega (arith, size, some))
      where
        one : One (token_of tape area w) → length (lexemes_of (token_of tape area w)) ≡ 1
        one (a_register x v e) = rw e (omega arith)
        one (a_number z v m e) = rw e (omega arith)
        one (a_junk v m e) = rw e (omega arith)

at_end : (line : List ℕ) (k b : ℕ) → InLine line k b → length line ≤ k → (k ≡ length line) × (b ≡ 0)
unfolding InLine
at_end line k b i = i.1

module _ (tape area : Text) (line : List ℕ) (h : Readable tape area line) where
  -- how many lexemes are left
  abbrev count : ℕ → ℕ → ℕ
  count k b = length (left (tokens_of tape area line) k b)

  abbrev bytes : ℕ → ℕ
  bytes k = sum_by len_of (drop k line)

  abbrev word : ℕ → ℕ
  word k = get_or line k 0

  none_past : (k b : ℕ) → length line ≤ k → (count k b ≡ 0) × (bytes k ≡ 0)
  none_past k b l = (ap {A = List Lexeme} length (left_end tape area line k b l), ap {A = List ℕ} (sum_by len_of) (drop_past k line l))

  -- at a lexeme of a token
  at_lexeme : (k b : ℕ) → Placed line k b → k < length line
      → (count k b + b ≡ size_of (word k) + count (k + 1) 0) × (bytes k ≡ len_of (word k) + bytes (k + 1)) × (b < size_of (word k)) × (size_of (word k) ≤ len_of (word k))
  at_lexeme k b p l =
      let size = token-size tape area (word k) (h.holds.at k l) (h.filled k l) in
      let long : count k b ≡ length (drop b (lexemes_of (token_of tape area (word k)))) + count (k + 1) 0 =
      ap {A = List Lexeme} length (left_at tape area line k l b) ∙ length-append _ _ in (
        omega (arith, long, size.0, p l, length-drop b (lexemes_of (token_of tape area (word k)))),
        ap {A = List ℕ} (sum_by len_of) (drop-cons line k 0 l ∙ ap {B = List ℕ} (λ n. word k ∷ drop n line) (sym (add-one k))) ∙ sum_by-cons len_of (word k) (drop (k + 1) line),
        p l,
        size.1,
      )

  -- what is left behind a token falls, or nothing is left before it either
  one_on : (k : ℕ) → (count (k + 1) 0 ≤ count k 0) × (bytes (k + 1) ≤ bytes k)
  one_on k = ⊎_elim inside past (cases_lt k (length line))
    where
      inside : k < length line → (count (k + 1) 0 ≤ count k 0) × (bytes (k + 1) ≤ bytes k)
      inside l =
          let here = at_lexeme k 0 (placed-whole tape area line h k) l in
          (omega (arith, here.0), omega (arith, here.1))

      past : length line ≤ k → (count (k + 1) 0 ≤ count k 0) × (bytes (k + 1) ≤ bytes k)
      past l = let next = none_past (k + 1) 0 (omega arith) in (omega (arith, next.0), omega (arith, next.1))

  later : (d k : ℕ) → (count (d + k) 0 ≤ count k 0) × (bytes (d + k) ≤ bytes k)
  later zero k = let same : 0 + k ≡ k = omega arith in rw same (omega arith, omega arith)
  later (suc d) k =
      let before = later d k in
      let next : suc d + k ≡ d + k + 1 = omega arith in
      rw next (let on = one_on (d + k) in (omega (arith, on.0, before.0), omega (arith, on.1, before.1)))

  -- a place at or behind the beginning of a token has no more left than that
  within : (k c : ℕ) → Placed line k c → (count k c ≤ count k 0) × (bytes_left line k c ≤ bytes k)
  within k c p = ⊎_elim (λ l. (let here = at_lexeme k c p l in let first = at_lexeme k 0 (placed-whole tape area line h k) l in (omega (arith, here.0, first.0), omega arith)))
      (λ l. (let here = none_past k c l in (omega (arith, here.0), omega arith))) (cases_lt k (length line))

  -- in a later token fewer lexemes are left, and fewer bytes
  after : (j b k c : ℕ) → j < length line → Placed line j b → Placed line k c → j < k → (count k c < count j b) × (bytes_left line k c < bytes_left line j b)
  after j b k c l p q m =
      let here = at_lexeme j b p l in
      let on = later (k - (j + 1)) (j + 1) in
      let there = within k c q in
      let same : k - (j + 1) + (j + 1) ≡ k = omega arith in
      let on' : (count k 0 ≤ count (j + 1) 0) × (bytes k ≤ bytes (j + 1)) = rw same at on in
      (omega (arith, here.0, here.2, on'.0, there.0), omega (arith, here.1, here.2, here.3, on'.1, there.1))

  pub bytes-fall : (j b k c : ℕ) → Placed line j b → Placed line k c → count k c < count j b → bytes_left line k c < bytes_left line j b
  bytes-fall j b k c p q m = ⊎_elim inside past (cases_lt j (length line))
    where
      past : length line ≤ j → bytes_left line k c < bytes_left line j b
      past l = absurd (omega (arith, (none_past j b l).0))

      inside : j < length line → bytes_left line k c < bytes_left line j b
      inside l = ⊎_elim same (⊎_elim (λ f. (after j b k c l p q f).1) (λ f. absurd (omega (arith, (after k c j b (omega arith) q p f).0)))) (cases_order j k)
        where
          same : j ≡ k → bytes_left line k c < bytes_left line j b
          same e =
              let here = at_lexeme j b p l in
              let there = at_lexeme j c (rw e q) l in
              let fewer : count j c < count j b = rw (← e) at m in
              rw (← e) (omega (arith, here.0, here.1, here.2, here.3, there.0, there.2, fewer))

  -- places in the line at which the same lexemes are left are the same
  pub known_by_left : (j b k c : ℕ) → InLine line j b → InLine line k c → left (tokens_of tape area line) j b ≡ left (tokens_of tape area line) k c → (j ≡ k) × (b ≡ c)
  known_by_left j b k c p q m = ⊎_elim same (⊎_elim (λ l. absurd (before j b k c p q l as_many)) (λ l. absurd (before k c j b q p l (sym as_many)))) (cases_order j k)
    where
      as_many : count j b ≡ count k c
      as_many = ap {A = List Lexeme} length m

      before : (j b k c : ℕ) → InLine line j b → InLine line k c → j < k → count j b ≡ count k c → ⊥
      before j b k c p q l e = ⊎_elim (λ i. (let more = after j b k c i (placed line j b p) (placed line k c q) l in omega (arith, more.0)))
          (λ i. (let end = at_end line k c q (omega arith) in omega (arith, end.0))) (cases_lt j (length line))

      same : j ≡ k → (j ≡ k) × (b ≡ c)
      same e = (e, ⊎_elim inside (λ l. (let x = at_end line j b p l in let y = at_end line k c q (omega arith) in omega (arith, x.1, y.1))) (cases_lt j (length line)))
        where
          inside : j < length line → b ≡ c
          inside l =
              let here = at_lexeme j b (placed line j b p) l in
              let there = at_lexeme j c (rw e (placed line k c q)) l in
              let many : count j b ≡ count j c = rw (← e) at as_many in
              omega (arith, here.0, here.2, there.0, there.2, many)
