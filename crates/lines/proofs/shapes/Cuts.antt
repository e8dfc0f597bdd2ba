-- `cut_semicolon` of the tokens that words mean: it goes by the last word alone. Assumes nothing.
use Prim.Native.Nat.{ℕ, suc, ◌-◌}
use native.Mathlib.Omega.{arith}
use mathlib.Core.Path.{◌≡◌, refl, sym, ap, ◌∙◌}
use mathlib.Core.Bool.{true, false, false≢true}
use mathlib.Core.List.{List, [], ◌∷◌, ◌++◌, drop_last, map-append, append-nil}
use mathlib.Core.Option.{Option, none, some}
use lib.Dec.{eqb}
use lib.ListN.{length, get_or, take}
use lib.Seq.{take_all, take-suc}
use borrow.Author.Tests.{eq-eqb, ne_eqb}
use Rattle.reference.specs.Control.{when◌then◌else◌, let_some◌else◌then◌}
use Rattle.reference.specs.Lists.{is_empty}
use Rattle.reference.specs.Text.{Text, bytes, ends_with}
use Rattle.reference.specs.Listing.{Token}
use Rattle.reference.specs.Shapes.{cut_semicolon}
use Rattle.laws.proofs.Scans.{if-true, if-false}
use Rattle.lines.specs.Words.{len_of, without_last, text_of, token_of, tokens_of, Points, Holds}
use Rattle.lines.specs.Shapes.{cut_last}
use Rattle.lines.proofs.words.Tokens.{text_length, first-bytes-means}
use Rattle.lines.proofs.shapes.Right.{cut-last_is}

drop-last : (s : Text) → drop_last s ≡ take (length s - 1) s
drop-last [] = refl
drop-last (a ∷ []) = refl
drop-last (a ∷ b ∷ s) =
    let e : length (a ∷ b ∷ s) - 1 ≡ suc (length (b ∷ s) - 1) = omega arith in
    rw e (ap (λ (l : Text). a ∷ l) (drop-last (b ∷ s)))

empty_one : (s : Text) → ends_with s (bytes ";") ≡ true → is_empty (drop_last s) ≡ eqb (length s) 1
empty_one [] h = absurd (false≢true h)
empty_one (a ∷ []) h = refl
empty_one (a ∷ b ∷ s) h = sym (ne_eqb (length (a ∷ b ∷ s)) 1 (λ f. omega arith))

-- the cut goes by the last token alone
cut_more : (x y : Token) (ts : List Token) → cut_semicolon (x ∷ y ∷ ts) ≡ (let_some (cut_semicolon (y ∷ ts)) else none then λ r. some (x ∷ r))
unfolding cut_semicolon
cut_more x y ts = refl

after : List Token → Option (List Token) → Option (List Token)
after front o = let_some o else none then λ r. some (front ++ r)

after_none : (o : Option (List Token)) → o ≡ after [] o
unfolding after let_some◌else◌then◌
after_none none = refl
after_none (some r) = refl

after_more : (x : Token) (front : List Token) (o : Option (List Token)) → (let_some (after front o) else none then λ r. some (x ∷ r)) ≡ after (x ∷ front) o
unfolding after let_some◌else◌then◌
after_more x front none = refl
after_more x front (some r) = refl

cut-after : (front : List Token) (t : Token) → cut_semicolon (front ++ (t ∷ [])) ≡ after front (cut_semicolon (t ∷ []))
cut-after [] t = after_none (cut_semicolon (t ∷ []))
cut-after (x ∷ front) t = more front (cut-after front t) ∙ after_more x front (cut_semicolon (t ∷ []))
  where
    more : (f : List Token) {o : Option (List Token)} → cut_semicolon (f ++ (t ∷ [])) ≡ o → cut_semicolon (x ∷ f ++ (t ∷ [])) ≡ (let_some o else none then λ r. some (x ∷ r))
    more [] e = cut_more x t [] ∙ rw e
    more (y ∷ f) e = cut_more x y (f ++ (t ∷ [])) ∙ rw e

last-split : (n : ℕ) (ws : List ℕ) → length ws ≡ suc n → ws ≡ take n ws ++ (get_or ws n 0 ∷ [])
last-split n ws e = sym (take_all (suc n) ws (omega arith)) ∙ take-suc ws n 0 (omega arith)

module _ (tape area : Text) where
  -- one token that ends so, by its length
  one_cut : (w : ℕ) → Points tape area w → ends_with (text_of tape area w) (bytes ";") ≡ true
      → cut_semicolon (token_of tape area w ∷ []) ≡ some (when eqb (len_of w) 1 then [] else token_of tape area (without_last w) ∷ [])
  unfolding cut_semicolon
  one_cut w p e =
      if-true _ _ e
      ∙ rw (empty_one (text_of tape area w) e, text_length p, drop-last (text_of tape area w), text_length p, first-bytes-means tape area w (len_of w - 1) p (omega arith))

  one_open : (w : ℕ) → ends_with (text_of tape area w) (bytes ";") ≡ false → cut_semicolon (token_of tape area w ∷ []) ≡ none
  unfolding cut_semicolon
  one_open w e = if-false _ _ e

  module _ (n : ℕ) (ws : List ℕ) (size : length ws ≡ suc n) where
    split : cut_semicolon (tokens_of tape area ws) ≡ after (tokens_of tape area (take n ws)) (cut_semicolon (token_of tape area (get_or ws n 0) ∷ []))
    split =
        ap (λ (l : List ℕ). cut_semicolon (tokens_of tape area l)) (last-split n ws size)
        ∙ ap cut_semicolon (map-append (token_of tape area) (take n ws) (get_or ws n 0 ∷ []))
        ∙ cut-after (tokens_of tape area (take n ws)) (token_of tape area (get_or ws n 0))

    pub cut_open : ends_with (text_of tape area (get_or ws n 0)) (bytes ";") ≡ false → cut_semicolon (tokens_of tape area ws) ≡ none
    unfolding after let_some◌else◌then◌
    cut_open e = split ∙ rw (one_open (get_or ws n 0) e)

    module _ (h : Holds tape area ws) (e : ends_with (text_of tape area (get_or ws n 0)) (bytes ";") ≡ true) where
      cut : cut_semicolon (tokens_of tape area ws)
          ≡ some (tokens_of tape area (take n ws) ++ (when eqb (len_of (get_or ws n 0)) 1 then [] else token_of tape area (without_last (get_or ws n 0)) ∷ []))
      unfolding after let_some◌else◌then◌
      cut = split ∙ rw (one_cut (get_or ws n 0) (h.at n (omega arith)) e)

      pub cut-gone : len_of (get_or ws n 0) ≡ 1 → cut_semicolon (tokens_of tape area ws) ≡ some (tokens_of tape area (take n ws))
      cut-gone f = cut ∙ ap some (rw (if-true _ _ (eq-eqb _ _ f)) (append-nil (tokens_of tape area (take n ws))))

      pub cut-kept : (len_of (get_or ws n 0) ≡ 1 → ⊥) → cut_semicolon (tokens_of tape area ws) ≡ some (tokens_of tape area (cut_last ws))
      cut-kept f = cut ∙ ap some (rw (if-false _ _ (ne_eqb _ _ f), cut-last_is n ws size) (sym (map-append (token_of tape area) (take n ws) (without_last (get_or ws n 0) ∷ []))))
