-- The right side of an assignment as words: the line without its ` = `, the last word without its last byte, and the words one by one.
-- Assumes nothing.
use Prim.Native.Nat.{ℕ, zero, suc, ◌+◌, ◌-◌, ◌≤◌, ◌<◌}
use native.Mathlib.Omega.{arith}
use mathlib.Core.Path.{◌≡◌, refl, sym, ap, ◌∙◌}
use mathlib.Core.Bool.{Bool, true, false}
use mathlib.Core.List.{List, [], ◌∷◌, ◌++◌}
use lib.ListN.{length, get_or, take, drop, length-set, length-drop, length-append, get_or-append}
use lib.Seq.{get_or-set_same, get_or-set_other, get_or-take, get_or-drop, get_or_at, length-take-le}
use Rattle.reference.specs.Text.{Text}
use Rattle.laws.proofs.Scans.{if-true, if-false}
use Rattle.lines.specs.Words.{len_of, without_first, without_last, Points, Holds}
use Rattle.lines.specs.declared.shapes.Expr.{Expr}
use Rattle.lines.specs.Shapes.{opened, cut_last, expr_words, Expression}
use Rattle.lines.proofs.words.Tokens.{without_first-points, first-bytes-points, holds-take, holds-drop, holds_snoc, holds-set}

-- ---- the line without ` = `

pub opened-length : (ws : List ℕ) → length (opened ws) ≡ length ws
unfolding opened
opened-length ws = length-set ws 1 (without_first (get_or ws 1 0) 3)

pub opened_one : (ws : List ℕ) (k : ℕ) → 1 < length ws → k ≡ 1 → get_or (opened ws) k 0 ≡ without_first (get_or ws 1 0) 3
unfolding opened
opened_one ws k h e = rw (e, get_or-set_same ws 1 (without_first (get_or ws 1 0) 3) 0)

pub opened-other : (ws : List ℕ) (k : ℕ) → (k ≡ 1 → ⊥) → get_or (opened ws) k 0 ≡ get_or ws k 0
unfolding opened
opened-other ws k n = get_or-set_other ws 1 k (without_first (get_or ws 1 0) 3) 0 n

-- what `right_word` leaves
pub ruleset opening = (opened_one, opened-other)

pub opened-holds : {tape area : Text} {ws : List ℕ} → Holds tape area ws → 1 < length ws → 3 ≤ len_of (get_or ws 1 0) → Holds tape area (opened ws)
unfolding opened
opened-holds {tape} {area} {ws} h l m = holds-set h 1 (without_first-points tape area (get_or ws 1 0) 3 (h.at 1 l) m)

-- ---- the last word without the byte at its end

pub cut-last_is : (n : ℕ) (ws : List ℕ) → length ws ≡ suc n → cut_last ws ≡ take n ws ++ (without_last (get_or ws n 0) ∷ [])
unfolding cut_last
cut-last_is n [] e = absurd (omega arith)
cut-last_is zero (w ∷ []) e = refl
cut-last_is (suc n) (w ∷ []) e = absurd (omega arith)
cut-last_is zero (w ∷ u ∷ us) e = absurd (omega arith)
cut-last_is (suc n) (w ∷ u ∷ us) e = ap (λ (l : List ℕ). w ∷ l) (cut-last_is n (u ∷ us) (omega arith))

-- ---- a right side's words, one by one

module _ {ws : List ℕ} {x : Expr} (h : Expression ws x) where
  abbrev part : List ℕ
  part = take x.count (drop x.first (opened ws))

  part_length : length part ≡ x.count
  part_length =
      length-take-le x.count (drop x.first (opened ws)) (rw (length-drop, opened-length) (omega (arith, h.inside)))

  part_at : (k : ℕ) → k < x.count → get_or part k 0 ≡ get_or (opened ws) (x.first + k) 0
  part_at k b = get_or-take x.count (drop x.first (opened ws)) k 0 b ∙ get_or-drop x.first (opened ws) k 0

  part_cut : cut_last part ≡ take (x.count - 1) part ++ (without_last (get_or part (x.count - 1) 0) ∷ [])
  part_cut = cut-last_is (x.count - 1) part (omega (arith, part_length, h.some))

  front_length : length (take (x.count - 1) part) ≡ x.count - 1
  front_length = length-take-le (x.count - 1) part (omega (arith, part_length))

  -- the words, by whether the last is cut
  cut-words : x.cut ≡ true → expr_words ws x ≡ take (x.count - 1) part ++ (without_last (get_or part (x.count - 1) 0) ∷ [])
  unfolding expr_words
  cut-words c = if-true _ _ c ∙ part_cut

  whole_words : x.cut ≡ false → expr_words ws x ≡ part
  unfolding expr_words
  whole_words c = if-false _ _ c

  pub expr-length : length (expr_words ws x) ≡ x.count
  expr-length = by_cut x.cut refl
    where
      by_cut : (b : Bool) → x.cut ≡ b → length (expr_words ws x) ≡ x.count
      by_cut true c = rw (cut-words c, length-append, front_length) (omega (arith, h.some))
      by_cut false c = rw (whole_words c) part_length

  pub expr-below : {k : ℕ} → k < x.count → k < length (expr_words ws x)
  expr-below b = rw expr-length b

  module _ (k : ℕ) where
    pub at_cut : x.cut ≡ true → k + 1 ≡ x.count → without_last (get_or (opened ws) (x.first + k) 0) ≡ get_or (expr_words ws x) k 0
    at_cut c e =
        let q : x.count - 1 ≡ k = omega arith in
        rw (cut-words c) (sym (get_or_at (take (x.count - 1) part) _ [] 0 k (front_length ∙ q) ∙ ap without_last (rw q (part_at k (omega arith)))))

    pub at_before : x.cut ≡ true → k + 1 < x.count → get_or (opened ws) (x.first + k) 0 ≡ get_or (expr_words ws x) k 0
    at_before c b =
        rw (cut-words c)
        (sym (get_or-append (take (x.count - 1) part) _ 0 k (rw front_length (omega arith)) ∙ get_or-take (x.count - 1) part k 0 (omega arith) ∙ part_at k (omega arith)))

    pub at_whole : x.cut ≡ false → k < x.count → get_or (opened ws) (x.first + k) 0 ≡ get_or (expr_words ws x) k 0
    at_whole c b = rw (whole_words c) (sym (part_at k b))

  -- the line has a token to assign to, and another
  pub expr-long : 1 < length ws
  expr-long = omega (arith, h.inside, h.first_is, h.some)

  pub expr-holds : {tape area : Text} → Holds tape area ws → Holds tape area (expr_words ws x)
  expr-holds {tape} {area} g = by_cut x.cut refl
    where
      base : Holds tape area part
      base = holds-take (holds-drop (opened-holds g expr-long h.mark) x.first) x.count

      by_cut : (b : Bool) → x.cut ≡ b → Holds tape area (expr_words ws x)
      by_cut true c =
          rw (cut-words c) (holds_snoc (holds-take base (x.count - 1))
          (first-bytes-points tape area (get_or part (x.count - 1) 0) (len_of (get_or part (x.count - 1) 0) - 1)
          (base.at (x.count - 1) (omega (arith, part_length, h.some))) (omega arith)))
      by_cut false c = rw (whole_words c) base

pub expr-points : {tape area : Text} {ws : List ℕ} {x : Expr} {k w : ℕ} → Holds tape area ws → Expression ws x → k < x.count → w ≡ get_or (expr_words ws x) k 0
    → Points tape area w
expr-points {k = k} g h b e = rw e ((expr-holds h g).at k (expr-below h b))
