-- Words that were coded: each is the same token, and points where it did; so do the lines and the listing that they make. Assumes nothing.
use Prim.Native.Nat.{ℕ, suc, ◌+◌, ◌-◌, ◌<◌, min}
use native.Mathlib.Nat.{lt_of_lt_of_le, min-le_left, min-le_right}
use native.Mathlib.Omega.{arith}
use mathlib.Core.Logic.{◌⊎◌, inl, inr}
use mathlib.Core.Path.{◌≡◌, refl, sym, ◌∙◌}
use mathlib.Core.List.{List, [], ◌∷◌, map}
use lib.ListN.{length, take, drop, get_or, length-take, length-drop}
use lib.Seq.{get_or-take, get_or-drop}
use Rattle.reference.specs.Text.{Text}
use Rattle.reference.specs.Listing.{token}
use Rattle.std.specs.Prelude as std
use Rattle.std.specs.Prelude.{unwrap_or}
use Rattle.lines.specs.Codes.{Says, Codes}
use Rattle.lines.specs.Traits.{traits}
use Rattle.lines.specs.Words.{kind_of, buffer_of, start_of, len_of, with_coding, text_of, token_of, tokens_of, Coded, Holds, Recoded, Recodes}
use Rattle.lines.specs.Lines.{first_of, count_of, part_of, line_in, listing_of, Lined, Listed}
use Rattle.lines.proofs.codes.Elsewhere.{coded_parts}
use Rattle.lines.proofs.traits.Tests.{traits_below}
use Rattle.lines.proofs.words.Each.{map_same}
use Rattle.lines.proofs.words.Tokens.{coded_kind, coded_place, coded_start, coded-len, coded-code, coded-traits, in_tape, part_is}

-- ---- one word

-- the code that is kept where there may be none
pub kept_code : {s : Text} {o : std.Option ℕ} {c : ℕ} → Codes s o → c ≡ unwrap_or o 0 → (c < 64) × ((c ≡ 0) ⊎ Says c s)
kept_code {o = std.Some d} h e = rw e (h.small d refl, inr (h.true d refl))
kept_code {o = std.None} h e = rw e (omega arith, inl refl)

module _ (tape : Text) (w : ℕ) {p s l : ℕ} (ep : p ≡ buffer_of w) (z : p ≡ 0) (es : s ≡ start_of w) (el : l ≡ len_of w) where
  part_is_text : (area : Text) → take (s + l - s) (drop s tape) ≡ text_of tape area w
  part_is_text area = part_is tape area w tape es el (in_tape tape area (sym ep ∙ z))

  pub recoded_with : {k c m r : ℕ} {o : std.Option ℕ} → k ≡ kind_of w → Codes (take (s + l - s) (drop s tape)) o → c ≡ unwrap_or o 0
      → m ≡ traits (token k (take (s + l - s) (drop s tape))) → r ≡ with_coding w c m → Recoded tape w r
  unfolding Coded text_of
  recoded_with {k} {c} {m} ek h ec em er =
      let q = kept_code h ec in
      rw er (record {
        means = λ area. rw (coded_kind w c m, coded_place w c m, coded_start w c m, coded-len w c m);
        points = λ area p. record {
          inside = rw (coded_place w c m, coded_start w c m, coded-len w c m) p.inside;
          short = rw (coded_start w c m, coded-len w c m) p.short;
          coded = rw (coded_kind w c m, coded_place w c m, coded_start w c m, coded-len w c m, coded-code w c m q.0, coded-traits w c m q.0)
              (inr (record { code = rw (part_is_text area) at q.1; traits = em ∙ rw (ek, part_is_text area) }));
        };
      })

-- what `coded` leaves
pub ruleset recoding = (kept_code, recoded_with, traits_below, coded_parts)

-- ---- lists of words

map-pair : {A : Type 0} (f : ℕ → A) (ws us : List ℕ) → length us ≡ length ws → ((k : ℕ) → k < length ws → f (get_or us k 0) ≡ f (get_or ws k 0)) → map f us ≡ map f ws
map-pair f [] [] l e = refl
map-pair f [] (u ∷ us) l e = absurd (omega arith)
map-pair f (w ∷ ws) [] l e = absurd (omega arith)
map-pair f (w ∷ ws) (u ∷ us) l e = cc (e 0 (omega arith), map-pair f ws us (omega arith) (λ k h. e (suc k) (omega arith)))

module _ {tape : Text} {ws us : List ℕ} (r : Recodes tape ws us) where
  pub recodes_take : (n : ℕ) → Recodes tape (take n ws) (take n us)
  recodes_take n = record {
    long = rw (length-take, length-take, r.long);
    at = λ k h.
        let h' : k < min n (length ws) = rw length-take at h in
        let b : k < n = lt_of_lt_of_le h' (min-le_left n (length ws)) in
        rw (get_or-take n ws k 0 b, get_or-take n us k 0 b) (r.at k (lt_of_lt_of_le h' (min-le_right n (length ws))));
  }

  pub recodes_drop : (n : ℕ) → Recodes tape (drop n ws) (drop n us)
  recodes_drop n = record {
    long = rw (length-drop, length-drop, r.long);
    at = λ k h. rw (get_or-drop, get_or-drop) (r.at (n + k) (let h' : k < length ws - n = rw length-drop at h in omega arith));
  }

  pub holds_recoded : {area : Text} → Holds tape area ws → Holds tape area us
  holds_recoded {area} h = record { at = λ k b. let b' : k < length ws = omega (arith, r.long) in (r.at k b').points area (h.at k b') }

  pub tokens_recoded : (area : Text) → tokens_of tape area us ≡ tokens_of tape area ws
  tokens_recoded area = map-pair (token_of tape area) ws us r.long (λ k h. (r.at k h).means area)

-- ---- lines

module _ {tape : Text} {ws us : List ℕ} (r : Recodes tape ws us) where
  part_recoded : (l : ℕ) → Recodes tape (part_of ws l) (part_of us l)
  part_recoded l = recodes_take (recodes_drop r (first_of l)) (count_of l)

  pub lined_recoded : {area : Text} {l : ℕ} → Lined tape area ws l → Lined tape area us l
  lined_recoded {area} {l} h = record { inside = omega (arith, h.inside, r.long); holds = holds_recoded (part_recoded l) h.holds; facts = rw (sym (tokens_recoded (part_recoded l) area)) at h.facts }

  pub line_recoded : (area : Text) (addresses : List ℕ) (l : ℕ) → line_in tape area us addresses l ≡ line_in tape area ws addresses l
  line_recoded area addresses l = let e = tokens_recoded (part_recoded l) area in cc

  pub listed_recoded : {area : Text} {lines : List ℕ} → Listed tape area ws lines → Listed tape area us lines
  listed_recoded h = record { at = λ k b. lined_recoded (h.at k b) }

  pub listing_recoded : (area : Text) (addresses lines : List ℕ) → listing_of tape area us addresses lines ≡ listing_of tape area ws addresses lines
  listing_recoded area addresses lines = map_same (line_in tape area us addresses) (line_in tape area ws addresses) lines (λ k h. line_recoded area addresses (get_or lines k 0))
