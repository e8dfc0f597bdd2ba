-- The loop that writes all lines anew: where it begins, the line that is left out, a line placed, and the end. The lines are rewritten in place:
-- what is written is never ahead of what is read. Assumes nothing.
use Prim.Native.Nat.{ℕ, ◌+◌, ◌≤◌, ◌<◌}
use native.Mathlib.Omega.{arith}
use native.Mathlib.Nat.{add-zero}
use native.Mathlib.Numerals.{add-one}
use mathlib.Core.Path.{◌≡◌, refl, sym, ap, ◌∙◌}
use mathlib.Core.List.{List, [], ◌∷◌, ◌++◌}
use lib.ListN.{length, get_or, set, take, drop, length-set, length-map}
use lib.Seq.{drop-drop, drop-set-lt, get_or-drop, take-suc-set}
use Rattle.reference.specs.Text.{Text}
use Rattle.reference.specs.Listing.{blank}
use Rattle.reference.specs.Rules.{Rules}
use Rattle.joining.specs.Plan.{Plan, acted_line}
use Rattle.joining.proofs.Building.{built_begin, built_turn, built-skip, act-built}
use Rattle.lines.specs.Lines.{Reading, listing_read}
use Rattle.lines.proofs.words.Lines.{listing_at, listed_none}
use Rattle.plan.specs.declared.plans.Join.{Join}
use Rattle.lines.specs.declared.texts.Size.{Size}
use Rattle.build.proofs.Listing.{listed-added, listing-added}
use Rattle.join.specs.Building.{Placed, plan_of, Plannable, nothing_used, acted_upto, Upto, Rebuilt}
use Rattle.join.proofs.Rows.{within_begin, text_few, words_few, within_passed, within-placed}

-- two lists with the same rest
module _ (k : ℕ) (xs ys : List ℕ) (e : drop k xs ≡ drop k ys) where
  pub rest_at : get_or xs k 0 ≡ get_or ys k 0
  rest_at =
      let here : (zs : List ℕ) → get_or zs k 0 ≡ get_or (drop k zs) 0 0 = λ zs. ap (λ (n : ℕ). get_or zs n 0) (sym (add-zero k)) ∙ sym (get_or-drop k zs 0 0) in
      here xs ∙ ap (λ (zs : List ℕ). get_or zs 0 0) e ∙ sym (here ys)

  pub rest-next : drop (k + 1) xs ≡ drop (k + 1) ys
  rest-next = sym (drop-drop 1 k xs) ∙ ap (drop 1) e ∙ drop-drop 1 k ys

module _ {rules : Rules} {tape old : Text} {words lines : List ℕ} {j : Join} (h : Plannable rules tape old words lines j) where
  abbrev plan : Plan
  plan = plan_of tape old words lines j

  pub begun : (area : Text) (tokens : List ℕ) → Upto rules tape old words lines j 0 area tokens lines nothing_used
  begun area tokens = record {
    as_many = refl;
    rest_is = refl;
    behind = omega arith;
    listed = listed_none tape _ _;
    means = λ addresses. sym (built_begin (acted_line rules j.line plan) j.line (listing_read tape old words addresses lines));
    within = within_begin h;
  }

  module _ {k : ℕ} {area : Text} {tokens lines' : List ℕ} {size : Size} (u : Upto rules tape old words lines j k area tokens lines' size) where
    -- the line that is left out
    pub passed : k ≡ j.line → Upto rules tape old words lines j (k + 1) area tokens lines' size
    passed e =
        let skip : (addresses : Reading) → acted_upto rules j plan (listing_read tape old words addresses lines) (k + 1) ≡ acted_upto rules j plan (listing_read tape old words addresses lines) k =
        λ addresses. rw e (built-skip (acted_line rules j.line plan) j.line (listing_read tape old words addresses lines) (rw length-map h.inside) blank) in
        record {
          as_many = u.as_many;
          rest_is = rest-next k lines' lines u.rest_is;
          behind = omega (arith, u.behind);
          listed = u.listed;
          means = λ addresses. u.means addresses ∙ sym (skip addresses);
          within = within_passed h u.within e;
        }

    -- any other line
    module _ (b : k < length lines) (n : k ≡ j.line → ⊥) {source : ℕ} (es : source ≡ get_or lines j.line 0) where
      pub placed : {area' : Text} {tokens' : List ℕ} {at' : Size} {v : ℕ} → Placed rules tape old words source j k (get_or lines' k 0) area tokens size area' tokens' at' v
          → Upto rules tape old words lines j (k + 1) area' tokens' (set lines' at'.lines v) (record { lines = at'.lines + 1; tokens = at'.tokens; text = at'.text })
      placed {at' = at'} {v} a =
          let el : get_or lines' k 0 ≡ get_or lines k 0 = rest_at k lines' lines u.rest_is in
          let inside : at'.lines < length lines' = omega (arith, a.lines_are, u.behind, u.as_many) in
          let front : take (at'.lines + 1) (set lines' at'.lines v) ≡ take size.lines lines' ++ (v ∷ []) =
          rw (add-one, take-suc-set lines' at'.lines v inside, a.lines_are) in
          record {
            as_many = length-set lines' at'.lines v ∙ u.as_many;
            rest_is = drop-set-lt (k + 1) lines' at'.lines v (omega (arith, a.lines_are, u.behind)) ∙ rest-next k lines' lines u.rest_is;
            behind = omega (arith, a.lines_are, u.behind);
            listed = rw front (listed-added a u.listed);
            means = λ addresses.
                ap (listing_read tape _ _ addresses) front
                ∙ listing-added a u.listed addresses
                ∙ rw (u.means addresses)
                (sym (built_turn (acted_line rules j.line plan) j.line (listing_read tape old words addresses lines) k blank (rw length-map b) n
                ∙ rw (listing_at tape old words addresses lines k b, el, es)));
            within = within-placed h u.within b n es el a refl refl;
          }

    pub finished : length lines ≡ k → size.text ≤ length area → size.tokens ≤ length tokens → Rebuilt rules tape old words lines j area tokens lines' size
    finished e ha ht = record {
      acted = record {
        current = record { text_fits = ha; words_fit = ht; lines_fit = omega (arith, u.behind, u.as_many); listed = u.listed };
        means = λ addresses. u.means addresses ∙ act-built rules (listing_read tape old words addresses lines) j.line plan k (rw length-map (omega arith));
      };
      text_few = text_few h u.within;
      words_few = words_few h u.within;
    }
