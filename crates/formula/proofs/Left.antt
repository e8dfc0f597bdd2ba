-- The lexemes that are left at a place: the end of a line, a byte of a Punct, another token. Assumes nothing.
use Rattle.std.proofs.Common.{◌≡◌, ℕ, zero, suc, ◌+◌, ◌<◌, ◌≤◌, Bool, true, false, eqb, List, [], ◌∷◌, ◌++◌, map, length, get_or, drop, ℤ, sym, refl, ap, ◌∙◌, add-one, arith, drop-cons, eq-eqb}
use Rattle.std.proofs.Common.{ne_eqb}
use mathlib.Core.Option.{Option, none, some}
use Rattle.reference.specs.Control.{when◌then◌else◌, let_some◌else◌then◌}
use Rattle.reference.specs.Text.{Text}
use Rattle.reference.specs.Listing.{Token, is, Punct}
use Rattle.reference.specs.Evaluators.{wide, number_of, Lexeme, sign, reg, num, junk, lexemes_of, lexemes}
use Rattle.laws.proofs.Scans.{if-true, if-false}
use Rattle.lines.specs.Words.{kind_of, len_of, text_of, token_of, tokens_of, Points}
use Rattle.lines.proofs.words.Tokens.{text_length}
use Rattle.formula.specs.Places.{left_of, left, size_of, Placed, InLine, Readable}

-- ---- parts of lists

pub drop-map : {A B : Type 0} (f : A → B) (n : ℕ) (xs : List A) → drop n (map f xs) ≡ map f (drop n xs)
drop-map f zero xs = refl
drop-map f (suc n) [] = refl
drop-map f (suc n) (x ∷ xs) = drop-map f n xs

pub drop_past : {A : Type 0} (n : ℕ) (xs : List A) → length xs ≤ n → drop n xs ≡ []
drop_past zero [] h = refl
drop_past zero (x ∷ xs) h = absurd (omega arith)
drop_past (suc n) [] h = refl
drop_past (suc n) (x ∷ xs) h = drop_past n xs (omega arith)

get_d_map : {A B : Type 0} (f : A → B) (n : ℕ) (xs : List A) (d : A) (e : B) → n < length xs → get_or (map f xs) n e ≡ f (get_or xs n d)
get_d_map f zero [] d e h = absurd (omega arith)
get_d_map f (suc n) [] d e h = absurd (omega arith)
get_d_map f zero (x ∷ xs) d e h = refl
get_d_map f (suc n) (x ∷ xs) d e h = get_d_map f n xs d e (omega arith)

-- ---- a token's lexemes

pub punct-lexemes : (t : Token) → is Punct t ≡ true → lexemes_of t ≡ map sign t.text
unfolding lexemes_of
punct-lexemes t e = if-true _ _ e

-- a token that is no Punct, by what it is worth
pub data One (t : Token) : Type 0 where
  a_register : (x : Text) → wide t ≡ some x → lexemes_of t ≡ reg x ∷ [] → One t
  a_number : (z : ℤ) → wide t ≡ none → number_of t ≡ some z → lexemes_of t ≡ num z ∷ [] → One t
  a_junk : wide t ≡ none → number_of t ≡ none → lexemes_of t ≡ junk ∷ [] → One t

pub one_of : (t : Token) → is Punct t ≡ false → One t
unfolding lexemes_of let_some◌else◌then◌
one_of t e = go (wide t) refl
  where
    other : wide t ≡ none → (o : Option ℤ) → number_of t ≡ o → One t
    other w none n = a_junk w n (if-false _ _ e ∙ rw (w, n))
    other w (some z) n = a_number z w n (if-false _ _ e ∙ rw (w, n))

    go : (o : Option Text) → wide t ≡ o → One t
    go none w = other w (number_of t) refl
    go (some x) w = a_register x w (if-false _ _ e ∙ rw w)

-- ---- places

module _ (tape area : Text) (line : List ℕ) where
  abbrev ts : List Token
  ts = tokens_of tape area line

  pub left_end : (k b : ℕ) → length line ≤ k → left ts k b ≡ []
  unfolding left left_of
  left_end k b h = rw (drop-map (token_of tape area) k line, drop_past k line h)

  pub left_whole : (k : ℕ) → left ts k 0 ≡ lexemes (drop k ts)
  unfolding left
  left_whole k = go (drop k ts)
    where
      go : (us : List Token) → left_of 0 us ≡ lexemes us
      go [] = unfold left_of lexemes in refl
      go (u ∷ us) = unfold left_of lexemes in refl

  module _ (k : ℕ) (h : k < length line) where
    tokens_at : drop k ts ≡ token_of tape area (get_or line k 0) ∷ drop (suc k) ts
    tokens_at =
        drop-map (token_of tape area) k line ∙ ap (map (token_of tape area)) (drop-cons line k 0 h)
        ∙ ap {B = List Token} (λ r. token_of tape area (get_or line k 0) ∷ r) (sym (drop-map (token_of tape area) (suc k) line))

    pub token_at : (d : Token) → get_or ts k d ≡ token_of tape area (get_or line k 0)
    token_at d = get_d_map (token_of tape area) k line 0 d h

    pub left_at : (b : ℕ) → left ts k b ≡ drop b (lexemes_of (token_of tape area (get_or line k 0))) ++ left ts (k + 1) 0
    left_at b =
        opened ∙ ap (λ (r : List Lexeme). drop b (lexemes_of (token_of tape area (get_or line k 0))) ++ r) (sym (ap (λ (n : ℕ). left ts n 0) (add-one k) ∙ left_whole (suc k)))
      where
        opened : left ts k b ≡ drop b (lexemes_of (token_of tape area (get_or line k 0))) ++ lexemes (drop (suc k) ts)
        opened = unfold left left_of in rw tokens_at

    -- ---- a Punct

    module _ (points : Points tape area (get_or line k 0)) (p : kind_of (get_or line k 0) ≡ Punct) where
      is_punct : is Punct (token_of tape area (get_or line k 0)) ≡ true
      unfolding is
      is_punct = eq-eqb _ _ p

      pub size_punct : size_of (get_or line k 0) ≡ len_of (get_or line k 0)
      unfolding size_of
      size_punct = if-true _ _ (eq-eqb _ _ p)

      signs_at : (b : ℕ) → left ts k b ≡ map sign (drop b (text_of tape area (get_or line k 0))) ++ left ts (k + 1) 0
      signs_at b =
          left_at b ∙ ap (λ (r : List Lexeme). drop b r ++ left ts (k + 1) 0) (punct-lexemes (token_of tape area (get_or line k 0)) is_punct)
          ∙ ap (λ (r : List Lexeme). r ++ left ts (k + 1) 0) (drop-map sign b (text_of tape area (get_or line k 0)))

      pub left_sign : (b : ℕ) → b < len_of (get_or line k 0) → left ts k b ≡ sign (get_or (text_of tape area (get_or line k 0)) b 0) ∷ left ts k (b + 1)
      left_sign b l =
          let s : Text = text_of tape area (get_or line k 0) in
          signs_at b ∙ ap (λ (r : Text). map sign r ++ left ts (k + 1) 0) (drop-cons s b 0 (omega (arith, text_length points)))
          ∙ ap {B = List Lexeme} (λ r. sign (get_or s b 0) ∷ r) (sym (ap (λ (n : ℕ). left ts k n) (add-one b) ∙ signs_at (suc b)))

      pub left_over : (b : ℕ) → len_of (get_or line k 0) ≤ b → left ts k b ≡ left ts (k + 1) 0
      left_over b l =
          signs_at b ∙ ap (λ (r : Text). map sign r ++ left ts (k + 1) 0) (drop_past b (text_of tape area (get_or line k 0)) (omega (arith, text_length points)))

    -- ---- another token

    module _ (p : kind_of (get_or line k 0) ≡ Punct → ⊥) where
      pub no_punct : is Punct (token_of tape area (get_or line k 0)) ≡ false
      unfolding is
      no_punct = ne_eqb _ _ p

      pub size_other : size_of (get_or line k 0) ≡ 1
      unfolding size_of
      size_other = if-false _ _ (ne_eqb _ _ p)

      pub left_other : (b : ℕ) → b < size_of (get_or line k 0) → left ts k b ≡ lexemes_of (token_of tape area (get_or line k 0)) ++ left ts (k + 1) 0
      left_other b l =
          let z : b ≡ 0 = omega (arith, size_other) in
          ap (λ (n : ℕ). left ts k n) z ∙ left_at 0

pub placed : (line : List ℕ) (k b : ℕ) → InLine line k b → Placed line k b
unfolding InLine
placed line k b i = i.0

-- a lexeme of a token of the line is in it
pub inside : (line : List ℕ) (k b : ℕ) → k < length line → Placed line k b → InLine line k b
unfolding InLine
inside line k b l p = (p, λ e. absurd (omega arith))

-- every place at the beginning of a token is one
pub placed-whole : (tape area : Text) (line : List ℕ) → Readable tape area line → (k : ℕ) → Placed line k 0
unfolding size_of when◌then◌else◌
placed-whole tape area line h k l = go (eqb (kind_of (get_or line k 0)) Punct)
  where
    go : (b : Bool) → 0 < (when b then len_of (get_or line k 0) else 1)
    go true = h.filled k l
    go false = omega arith

-- and in the line, where the token is, and at its end
pub whole-token : (tape area : Text) (line : List ℕ) → Readable tape area line → (k : ℕ) → k ≤ length line → InLine line k 0
unfolding InLine
whole-token tape area line h k l = (placed-whole tape area line h k, λ e. (omega arith, refl))
