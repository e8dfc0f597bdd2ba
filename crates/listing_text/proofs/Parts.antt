-- The first part of a text, and what is left: each turn of a loop over lines or fields. Assumes nothing.
use Prim.Native.Nat.{ℕ, suc, ◌+◌, ◌≤◌, ◌<◌, min}
use native.Mathlib.Omega.{arith}
use native.Mathlib.Numerals.{add-one}
use mathlib.Core.Path.{◌≡◌, refl, sym, ap, ◌∙◌}
use native.Mathlib.Decide.{dec_lt}
use mathlib.Core.Bool.{true, false}
use mathlib.Core.Logic.{by_cases}
use mathlib.Core.List.{List, [], ◌∷◌, ◌++◌}
use lib.Dec.{eqb}
use lib.ListN.{length, get_or, length-take}
use lib.Seq.{drop-cons}
use borrow.Author.Tests.{eq-eqb, ne_eqb}
use Rattle.reference.specs.Control.{when◌then◌else◌}
use Rattle.reference.specs.Text.{Text}
use Rattle.words.specs.Splitting.{onto}
use Rattle.std.proofs.Common.{true≢false, slice_index_or, ◌-◌, Option, Some, None, MatchOption, Bor, take, drop, length-append}
use Rattle.std.specs.List.{position, position_or_len}
use Rattle.std.proofs.lemmas.Grind.{common_steps}
use Rattle.std.proofs.lemmas.List.Quantifiers.{position-Some}
use Rattle.std.proofs.lemmas.Bool.{eqb-true}
use Rattle.std.proofs.lemmas.List.{get_or-take, take-append-drop, append_assoc, append-nil, get_or_append_left, get_or-append-add}
use Rattle.laws.proofs.Parts.{to_end}
use Rattle.std.proofs.lemmas.List.Sums.{fails_before_first}
use Rattle.listing_text.specs.Exact.{ended, apart}

-- ---- a text without the byte b

abbrev pub Without : ℕ → Text → Type 0
Without b t = (i : ℕ) → i < length t → get_or t i 0 ≡ b → ⊥

-- where the first b stands, if there is one
module _ (b : ℕ) (t : Text) where
  pub no_place : position (λ x. eqb x b) t ≡ None → Without b t
  no_place e i h is =
      let past : length t ≤ position_or_len (λ x. eqb x b) t = grind (arith, common_steps) in
      let here : eqb (get_or t i 0) b ≡ true = eq-eqb (get_or t i 0) b is in
      cc (fails_before_first (λ x. eqb x b) t i 0 (omega arith))

  module _ {i : ℕ} (e : position (λ x. eqb x b) t ≡ Some i) where
    pub front_without : Without b (take i t)
    front_without k h is =
        let below : k < i = omega (arith, length-take i t) in
        let here : eqb (get_or t k 0) b ≡ true = eq-eqb (get_or t k 0) b (sym (get_or-take i t k 0 below) ∙ is) in
        cc ((position-Some (λ x. eqb x b) t i 0 e).2 k below)

    pub apart_at : t ≡ take i t ++ (b ∷ take (length t - (i + 1)) (drop (i + 1) t))
    apart_at =
        let f = position-Some (λ x. eqb x b) t i 0 e in
        let here : get_or t i 0 ≡ b = eqb-true (get_or t i 0) b f.1 in
        let behind : drop (suc i) t ≡ take (length t - (i + 1)) (drop (i + 1) t) = rw (to_end (i + 1) t, add-one) refl in
        sym (take-append-drop i t) ∙ ap (λ (s : Text). take i t ++ s) (drop-cons t i 0 f.0 ∙ λ j. here j ∷ behind j)

tail_of : (b x : ℕ) (t : Text) → Without b (x ∷ t) → Without b t
tail_of b x t n i h = n (suc i) (omega arith)

module _ (b : ℕ) where
  same_byte : eqb b b ≡ true
  same_byte = eq-eqb b b refl

  pub ended_then : (t rest : Text) → Without b t → ended b (t ++ b ∷ rest) ≡ t ∷ ended b rest
  unfolding ended onto when◌then◌else◌
  ended_then [] rest n = rw same_byte
  ended_then (x ∷ t) rest n = rw (ne_eqb x b (n 0 (omega arith)), ended_then t rest (tail_of b x t n))

  ended-last : (x : ℕ) (t : Text) → Without b (x ∷ t) → ended b (x ∷ t) ≡ (x ∷ t) ∷ []
  unfolding ended onto when◌then◌else◌
  ended-last x [] n = rw (ne_eqb x b (n 0 (omega arith)))
  ended-last x (y ∷ t) n = rw (ne_eqb x b (n 0 (omega arith)), ended-last y t (tail_of b x (y ∷ t) n))

  pub ended-only : (t : Text) → 0 < length t → Without b t → ended b t ≡ t ∷ []
  ended-only [] h n = absurd (omega arith)
  ended-only (x ∷ t) h n = ended-last x t n

  pub apart_then : (t rest : Text) → Without b t → apart b (t ++ b ∷ rest) ≡ t ∷ apart b rest
  unfolding apart onto when◌then◌else◌
  apart_then [] rest n = rw same_byte
  apart_then (x ∷ t) rest n = rw (ne_eqb x b (n 0 (omega arith)), apart_then t rest (tail_of b x t n))

  pub apart-only : (t : Text) → Without b t → apart b t ≡ t ∷ []
  unfolding apart onto when◌then◌else◌
  apart-only [] n = refl
  apart-only (x ∷ t) n = rw (ne_eqb x b (n 0 (omega arith)), apart-only t (tail_of b x t n))

-- ---- the first part, and what stands behind it

abbrev pub SplitsAt : ℕ → Text → Text → Option (Bor Text) → Type 0
SplitsAt b t front behind = MatchOption behind (t ≡ front) (λ more. t ≡ front ++ (b ∷ more.now))

-- what is left behind a part
abbrev pub parts_of : ℕ → Option (Bor Text) → List Text
parts_of b None = []
parts_of b (Some t) = apart b t.now

abbrev pub size_of : Option (Bor Text) → ℕ
size_of None = 0
size_of (Some t) = suc (length t.now)

pub first_part : (b : ℕ) (t front : Text) (behind : Option (Bor Text)) → Without b front → SplitsAt b t front behind → apart b t ≡ front ∷ parts_of b behind
first_part b t front None n e = rw e (apart-only b front n)
first_part b t front (Some more) n e = rw e (apart_then b front more.now n)

pub two_parts : (b : ℕ) (t front : Text) (behind : Option (Bor Text)) (rest : Bor Text) (second : Text) (more : Option (Bor Text)) → Without b front → SplitsAt b t front behind
    → behind ≡ Some rest → Without b second → SplitsAt b rest.now second more → apart b t ≡ front ∷ second ∷ parts_of b more
two_parts b t front behind rest second more n e is m f =
    first_part b t front behind n e ∙ ap (λ (o : Option (Bor Text)). front ∷ parts_of b o) is ∙ ap (λ (ts : List Text). front ∷ ts) (first_part b rest.now second more m f)

pub no_lines : (b : ℕ) (t : Text) → length t ≡ 0 → ended b t ≡ []
unfolding ended
no_lines b [] h = refl
no_lines b (x ∷ t) h = absurd (omega (arith, h))

-- ---- a piece that `split_inclusive` gives of s: its bytes up to the first b, before which i bytes stand

module _ (b : ℕ) (s x t : Text) (i : ℕ) (e : s ≡ x ++ t) (n : length x ≡ min (i + 1) (length s)) (all : (k d : ℕ) → 0 ≤ k → k < i → eqb (slice_index_or s k d) b ≡ false)
    (at : i < length s → (d : ℕ) → eqb (slice_index_or s i d) b ≡ true) where
  -- with a b in it, it ends there
  ends_there : (front more : Text) → x ≡ front ++ (b ∷ more) → more ≡ []
  ends_there front [] f = refl
  ends_there front (y ∷ more) f =
      let k : ℕ = length front + 0 in
      let l : length x ≡ length front + suc (suc (length more)) = ap length f ∙ length-append front (b ∷ y ∷ more) in
      let m : length s ≡ length x + length t = ap length e ∙ length-append x t in
      let here : get_or s k 0 ≡ b =
      ap (λ (r : Text). get_or r k 0) e ∙ get_or_append_left x t 0 k (omega (arith, l)) ∙ ap (λ (r : Text). get_or r k 0) f
      ∙ get_or-append-add front (b ∷ y ∷ more) 0 0 in
      let other : eqb (get_or s k 0) b ≡ false = all k 0 (omega arith) (omega (arith, l, m, n)) in
      absurd (true≢false (sym (eq-eqb (get_or s k 0) b here) ∙ other))

  -- with none, it is the whole
  whole_left : Without b x → t ≡ []
  whole_left w =
      by_cases (dec_lt i (length s))
      (λ h. let l : i < length x = omega (arith, n, h) in
      absurd (w i l (sym (ap (λ (r : Text). get_or r i 0) e ∙ get_or_append_left x t 0 i l) ∙ eqb-true (get_or s i 0) b (at h 0))))
      (λ h. none t (omega (arith, n, m, h)))
    where
      m : length s ≡ length x + length t
      m = ap length e ∙ length-append x t

      none : (r : Text) → length r ≡ 0 → r ≡ []
      none [] h = refl
      none (y ∷ r) h = absurd (omega (arith, h))

  -- its line is the first of s
  pub piece_line : 0 < length s → (front : Text) (behind : Option (Bor Text)) → Without b front → SplitsAt b x front behind → ended b s ≡ front ∷ ended b t
  unfolding ended
  piece_line h front None w f =
      let z : t ≡ [] = whole_left (rw f w) in
      let q : s ≡ front ++ [] = e ∙ (λ j. f j ++ z j) in
      rw (q, append-nil, z) (ended-only b front (omega (arith, h, ap length q, length-append front [])) w)
  piece_line h front (Some more) w f =
      let z : more.now ≡ [] = ends_there front more.now f in
      let q : s ≡ front ++ (b ∷ t) = e ∙ ap (λ (r : Text). r ++ t) (f ∙ ap (λ (r : Text). front ++ (b ∷ r)) z) ∙ append_assoc front (b ∷ []) t in
      rw q (ended_then b front t w)
