-- Pushes one after another: what they leave together, and room for the next. Assumes nothing.
use Prim.Native.Nat.{ℕ, suc, ◌+◌, ◌<◌}
use native.Mathlib.Omega.{arith}
use native.Mathlib.Nat.{le_refl}
use native.Mathlib.Numerals.{add-one}
use mathlib.Core.Path.{◌≡◌, refl, sym, ap, ◌∙◌}
use mathlib.Core.List.{List, [], ◌∷◌, ◌++◌, map-append}
use lib.ListN.{length, get_or, take, drop, length-append}
use lib.Seq.{take-take, take-suc, split_at}
use Rattle.reference.specs.Text.{Text}
use Rattle.reference.specs.Listing.{Token}
use Rattle.reference.specs.Claim.{size, text_in}
use Rattle.reference.proofs.Weights.{sum-append}
use Rattle.lines.specs.Words.{token_of, tokens_of}
use Rattle.lines.specs.declared.texts.Size.{Size}
use Rattle.build.specs.State.{line_now, pushes, Room, Ready, Grows, Pushed}
use Rattle.build.proofs.Merging.{pushes_append}

-- ---- what stays as it was

pub grows_none : {area : Text} {tokens : List ℕ} {from : ℕ} {at : Size} → Grows area tokens from at area tokens at
grows_none = record { lines_are = refl; words_below = refl; text_grows = le_refl _; text_below = refl; fresh = λ m h f. f }

pub grows_then : {area : Text} {tokens : List ℕ} {from : ℕ} {at : Size} {area' : Text} {tokens' : List ℕ} {at' : Size} {area'' : Text} {tokens'' : List ℕ} {at'' : Size}
    → Grows area tokens from at area' tokens' at' → Grows area' tokens' from at' area'' tokens'' at'' → Grows area tokens from at area'' tokens'' at''
grows_then {area} {at = at} {area'} {at' = at'} {area''} g h = record {
  lines_are = h.lines_are ∙ g.lines_are;
  words_below = h.words_below ∙ g.words_below;
  text_grows = omega (arith, g.text_grows, h.text_grows);
  text_below =
      sym (take-take at.text at'.text area'' g.text_grows) ∙ ap (take at.text) h.text_below ∙ take-take at.text at'.text area' g.text_grows ∙ g.text_below;
  fresh = λ m i f. h.fresh m (omega (arith, g.text_grows)) (g.fresh m i f);
}

-- ---- pushes

module _ {tape area : Text} {tokens : List ℕ} {from : ℕ} {at : Size} where
  pub pushed_none : {ts : List Token} → Ready tape area tokens from at ts → Pushed tape area tokens from at [] area tokens at
  unfolding pushes
  pushed_none r = record {
    built = r.built;
    extendable = r.extendable;
    line_is = refl;
    grows = grows_none;
    text_most = omega arith;
    words_most = omega arith;
  }

  module _ {ts : List Token} {area' : Text} {tokens' : List ℕ} {at' : Size} (p : Pushed tape area tokens from at ts area' tokens' at') where
    pub pushed_then : {us : List Token} {area'' : Text} {tokens'' : List ℕ} {at'' : Size} → Pushed tape area' tokens' from at' us area'' tokens'' at''
        → Pushed tape area tokens from at (ts ++ us) area'' tokens'' at''
    pushed_then {us} q = record {
      built = q.built;
      extendable = q.extendable;
      line_is = q.line_is ∙ ap (λ (out : List Token). pushes out us) p.line_is ∙ sym (pushes_append (line_now tape area tokens from at) ts us);
      grows = grows_then p.grows q.grows;
      text_most = omega (arith, p.text_most, q.text_most, sum-append size ts us);
      words_most = omega (arith, p.words_most, q.words_most, length-append ts us);
    }

    -- room for those that follow
    pub ready_then : (us rest : List Token) {vs : List Token} → Room area tokens at (text_in vs) (length vs) → vs ≡ ts ++ (us ++ rest)
        → length area' ≡ length area → length tokens' ≡ length tokens → Ready tape area' tokens' from at' us
    ready_then us rest {vs} r e la lt =
        let ht : text_in vs ≡ text_in ts + (text_in us + text_in rest) = ap text_in e ∙ sum-append size ts (us ++ rest) ∙ rw (sum-append size us rest) in
        let hl : length vs ≡ length ts + (length us + length rest) = ap length e ∙ length-append ts (us ++ rest) ∙ rw (length-append us rest) in
        record {
          built = p.built;
          extendable = p.extendable;
          room = record {
            text_fits = omega (arith, r.text_fits, p.text_most);
            short = omega (arith, r.short, p.text_most);
            words_fit = omega (arith, r.words_fit, p.words_most);
          };
        }

-- ---- the words of a line, one by one

module _ (tape old : Text) (ws : List ℕ) (k : ℕ) (h : k < length ws) where
  pub tokens_more : tokens_of tape old (take (k + 1) ws) ≡ tokens_of tape old (take k ws) ++ (token_of tape old (get_or ws k 0) ∷ [])
  tokens_more = rw (add-one, take-suc ws k 0 h) (map-append (token_of tape old) (take k ws) (get_or ws k 0 ∷ []))

  pub tokens-split : tokens_of tape old ws ≡ tokens_of tape old (take k ws) ++ ((token_of tape old (get_or ws k 0) ∷ []) ++ tokens_of tape old (drop (k + 1) ws))
  tokens-split =
      ap (tokens_of tape old) (split_at ws k 0 h) ∙ map-append (token_of tape old) (take k ws) (get_or ws k 0 ∷ drop (suc k) ws) ∙ rw add-one
