-- What a plan changes is what is changed at the places of the lines that use the family; so `act` is `rewrite_uses` there. Assumes nothing.
use Prim.Native.Nat.{ℕ, suc, ◌≤◌, ◌<◌}
use native.Mathlib.Omega.{arith}
use native.Mathlib.Nat.{zero-add}
use mathlib.Core.Path.{◌≡◌, refl, sym, ap, ◌∙◌}
use mathlib.Core.Bool.{Bool, true, false}
use mathlib.Core.List.{List, [], ◌∷◌, ◌++◌, append_assoc}
use lib.Dec.{leb}
use lib.ListN.{length, take, drop, length-append, take-append-drop}
use lib.Seq.{length-take-le}
use borrow.Author.Tests.{lt-ltb, le-ltb}
use Rattle.reference.specs.Control.{◌and◌, when◌then◌else◌}
use Rattle.reference.specs.Lists.{modify}
use Rattle.reference.specs.Text.{Text}
use Rattle.reference.specs.Listing.{Token, Line, Listing}
use Rattle.reference.specs.Rules.{Rules, volatile}
use Rattle.reference.specs.Life.{touch, is_use}
use Rattle.reference.specs.Join.{rewrite_use, rewrite_uses}
use Rattle.laws.proofs.Scans.{if-true, if-false, and_true, and_false}
use Rattle.joining.specs.Plan.{Plan, map_from, right_side_of, changes, where_used, acted_line}
use Rattle.joining.proofs.Uses.{uses_upto}
use Rattle.joining.proofs.Indexed.{map-from_append, map-from_id, modify_seam}

-- the lines at the places `js` by g, one after the other
unfoldable pub modifies : (Line → Line) → List ℕ → Listing → Listing
modifies g [] lines = lines
modifies g (j ∷ js) lines = modifies g js (modify j g lines)

rewrites : (edition : ℕ) (fam : Text) (expr : List Token) (js : List ℕ) (lines : Listing) → rewrite_uses edition fam expr js lines ≡ modifies (rewrite_use edition fam expr) js lines
unfolding rewrite_uses modifies
rewrites edition fam expr [] lines = refl
rewrites edition fam expr (j ∷ js) lines = rewrites edition fam expr js (modify j (rewrite_use edition fam expr) lines)

module _ (vol : List Text) (i : ℕ) (p : Plan) where
  pub changes-later : (k : ℕ) (l : Line) → i < k → changes vol i p k l ≡ (leb k p.last and is_use (touch l p.fam vol))
  unfolding changes
  changes-later k l h = and_true _ (lt-ltb i k h)

  module _ (g : Line → Line) where
    pub line_changed : (k : ℕ) (l : Line) → changes vol i p k l ≡ true → where_used vol i p g k l ≡ g l
    unfolding where_used
    line_changed k l e = if-true _ _ e

    pub line_kept : (k : ℕ) (l : Line) → changes vol i p k l ≡ false → where_used vol i p g k l ≡ l
    unfolding where_used
    line_kept k l e = if-false _ _ e

    pub early : (k : ℕ) (l : Line) → k ≤ i → where_used vol i p g k l ≡ l
    unfolding changes
    early k l h = line_kept k l (and_false _ (le-ltb i k h))

    changed-from : (front : Listing) (j : ℕ) (ls : Listing) → i < j → length front ≡ j
        → modifies g (uses_upto p.fam vol p.last j ls) (front ++ ls) ≡ front ++ map_from (where_used vol i p g) j ls
    unfolding modifies uses_upto where_used when◌then◌else◌
    changed-from front j [] h e = refl
    changed-from front j (l ∷ ls) h e =
        go (leb j p.last and is_use (touch l p.fam vol)) refl
        (λ l'. rw (← (append_assoc front (l' ∷ []) ls), ← (append_assoc front (l' ∷ []) (map_from (where_used vol i p g) (suc j) ls)))
        (changed-from (front ++ (l' ∷ [])) (suc j) ls (omega arith) (length-append front (l' ∷ []) ∙ omega arith)))
      where
        others : List ℕ
        others = uses_upto p.fam vol p.last (suc j) ls

        go : (b : Bool) → (leb j p.last and is_use (touch l p.fam vol)) ≡ b
            → ((l' : Line) → modifies g others (front ++ l' ∷ ls) ≡ front ++ l' ∷ map_from (where_used vol i p g) (suc j) ls)
            → modifies g (when leb j p.last and is_use (touch l p.fam vol) then j ∷ others else others) (front ++ l ∷ ls)
            ≡ front ++ where_used vol i p g j l ∷ map_from (where_used vol i p g) (suc j) ls
        go true t next = rw (changes-later j l h, t) (ap (modifies g others) (modify_seam g front l ls j e) ∙ next (g l))
        go false t next = rw (changes-later j l h, t) (next l)

    pub changed : (lines : Listing) → i < length lines
        → map_from (where_used vol i p g) 0 lines ≡ modifies g (uses_upto p.fam vol p.last (suc i) (drop (suc i) lines)) lines
    changed lines h =
        let front : Listing = take (suc i) lines in
        let rest : Listing = drop (suc i) lines in
        let size : length front ≡ suc i = length-take-le (suc i) lines h in
        let whole : front ++ rest ≡ lines = take-append-drop (suc i) lines in
        let same : map_from (where_used vol i p g) 0 front ≡ front = map-from_id (where_used vol i p g) 0 front (λ m x a b. early m x (omega arith)) in
        sym (ap (modifies g (uses_upto p.fam vol p.last (suc i) rest)) (sym whole)
        ∙ changed-from front (suc i) rest (omega arith) size
        ∙ sym (map-from_append (where_used vol i p g) 0 front rest ∙ rw (same, size, zero-add))
        ∙ ap (map_from (where_used vol i p g) 0) whole)

pub acted : (rules : Rules) (i : ℕ) (p : Plan) (lines : Listing) → i < length lines
    → map_from (acted_line rules i p) 0 lines
    ≡ rewrite_uses rules.edition p.fam (right_side_of p) (uses_upto p.fam (volatile rules) p.last (suc i) (drop (suc i) lines)) lines
acted rules i p lines h =
    changed (volatile rules) i p (rewrite_use rules.edition p.fam (right_side_of p)) lines h ∙ sym (rewrites rules.edition p.fam (right_side_of p) _ lines)
