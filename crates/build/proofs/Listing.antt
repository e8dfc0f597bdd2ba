-- What an appended line leaves of a listing: the lines before it mean what they meant, and it stands behind them. And what it means in another
-- set that has its words and its text at the same places. Assumes nothing.
use Prim.Native.Nat.{ℕ, ◌+◌, ◌-◌, ◌≤◌}
use native.Mathlib.Omega.{arith}
use native.Mathlib.Nat.{le_refl}
use native.Mathlib.Decide.{ℕ_discrete}
use mathlib.Core.Logic.{by_cases}
use mathlib.Core.Path.{◌≡◌, sym, ap, ◌∙◌}
use mathlib.Core.List.{List, [], ◌∷◌, ◌++◌, map-append}
use lib.ListN.{length, get_or, take, drop, length-take}
use lib.Seq.{slice, drop-drop, length-take-le}
use Rattle.reference.specs.Text.{Text}
use Rattle.reference.specs.Listing.{Line, token}
use Rattle.lines.specs.Words.{kind_of, buffer_of, start_of, len_of, text_of, token_of, tokens_of, Points}
use Rattle.lines.specs.Lines.{Reading, part_of, line_read, listing_read, Lined, Listed}
use Rattle.lines.proofs.words.Each.{map_same}
use Rattle.lines.proofs.words.Tokens.{coded_same, place_below, in_tape, in_area}
use Rattle.lines.proofs.words.Lines.{listed_snoc, listed-grows, listing-grows}
use Rattle.lines.specs.declared.texts.Size.{Size}
use Rattle.build.specs.State.{used}
use Rattle.build.specs.Added.{used_words, Added}
use Rattle.build.proofs.Growing.{grown}

-- ---- the listing

module _ {tape area : Text} {tokens : List ℕ} {at : Size} {line : Reading → Line} {n k : ℕ} {area' : Text} {tokens' : List ℕ} {at' : Size} {v : ℕ}
    (a : Added tape area tokens at line n k area' tokens' at' v) where
  more_text : Text
  more_text = take (at'.text - at.text) (drop at.text area')

  more_words : List ℕ
  more_words = take (at'.tokens - at.tokens) (drop at.tokens tokens')

  text_grew : used area' at' ≡ used area at ++ more_text
  unfolding more_text
  text_grew = grown area area' at.text at'.text a.text_grows a.text_below

  words_grew : used_words tokens' at' ≡ used_words tokens at ++ more_words
  unfolding more_words
  words_grew = grown tokens tokens' at.tokens at'.tokens (omega (arith, a.end_is)) a.words_below

  module _ {lines : List ℕ} (h : Listed tape (used area at) (used_words tokens at) lines) where
    -- every line before it can be read, and means what it meant
    pub listed-before : Listed tape (used area' at') (used_words tokens' at') lines
    listed-before = rw (text_grew, words_grew) (listed-grows more_text more_words h)

    pub listing-before : (addresses : Reading)
        → listing_read tape (used area' at') (used_words tokens' at') addresses lines ≡ listing_read tape (used area at) (used_words tokens at) addresses lines
    listing-before addresses = rw (text_grew, words_grew) (listing-grows more_text more_words h addresses)

    -- and the new line stands behind them
    pub listed-added : Listed tape (used area' at') (used_words tokens' at') (lines ++ (v ∷ []))
    listed-added = listed_snoc listed-before a.lined

    pub listing-added : (addresses : Reading)
        → listing_read tape (used area' at') (used_words tokens' at') addresses (lines ++ (v ∷ []))
        ≡ listing_read tape (used area at) (used_words tokens at) addresses lines ++ (line addresses ∷ [])
    listing-added addresses =
        map-append (line_read tape (used area' at') (used_words tokens' at') addresses) lines (v ∷ [])
        ∙ rw (listing-before addresses, a.line_is addresses)

  -- ---- the line in another set, which has the appended text and words at the same places

  module _ (area'' : Text) (tokens'' : List ℕ) (et : slice at.text at'.text area'' ≡ slice at.text at'.text area')
      (ew : slice at.tokens at'.tokens tokens'' ≡ slice at.tokens at'.tokens tokens')
      (la : at'.text ≤ length area'') (lw : at'.tokens ≤ length tokens'') where
    -- a word of the line
    module _ {w : ℕ} (p : Points tape (used area' at') w) (f : buffer_of w ≡ 1 → at.text ≤ start_of w) where
      place_one : (buffer_of w ≡ 0 → ⊥) → buffer_of w ≡ 1
      place_one h = omega (arith, place_below w, h)

      same_text : text_of tape (used area'' at') w ≡ text_of tape (used area' at') w
      unfolding text_of
      same_text = by_cases (ℕ_discrete (buffer_of w) 0)
          (λ e. rw (in_tape tape (used area'' at') e, in_tape tape (used area' at') e))
          (λ e.
          let q : start_of w ≡ at.text + (start_of w - at.text) = omega (arith, f (place_one e)) in
          rw (in_area tape (used area'' at') e, in_area tape (used area' at') e)
          (ap (take (len_of w))
          (ap (λ (i : ℕ). drop i (used area'' at')) q ∙ sym (drop-drop (start_of w - at.text) at.text (used area'' at'))
          ∙ ap (drop (start_of w - at.text)) et
          ∙ drop-drop (start_of w - at.text) at.text (used area' at') ∙ ap (λ (i : ℕ). drop i (used area' at')) (sym q))))

      used-long : length (used area'' at') ≡ at'.text
      used-long = length-take-le at'.text area'' la

      same_points : Points tape (used area'' at') w
      same_points = record {
        inside = by_cases (ℕ_discrete (buffer_of w) 0)
            (λ e. rw (in_tape tape (used area'' at') e) (rw (in_tape tape (used area' at') e) at p.inside))
            (λ e. rw (in_area tape (used area'' at') e, used-long) (omega (arith, p.inside, ap length (in_area tape (used area' at') e), length-take at'.text area')));
        short = p.short;
        coded = coded_same tape (used area' at') tape (used area'' at') w (sym same_text) p.coded;
      }

    same_part : part_of (used_words tokens'' at') v ≡ part_of (used_words tokens' at') v
    same_part = rw (a.first_is, ew)

    same_tokens : tokens_of tape (used area'' at') (part_of (used_words tokens'' at') v) ≡ tokens_of tape (used area' at') (part_of (used_words tokens' at') v)
    same_tokens =
        ap (tokens_of tape (used area'' at')) same_part
        ∙ map_same (token_of tape (used area'' at')) (token_of tape (used area' at')) (part_of (used_words tokens' at') v)
        (λ i h. ap (token (kind_of (get_or (part_of (used_words tokens' at') v) i 0))) (same_text (a.lined.holds.at i h) (a.fresh.from_m i h)))

    pub lined_elsewhere : Lined tape (used area'' at') (used_words tokens'' at') v
    lined_elsewhere = record {
      inside = rw (a.first_is, a.end_is, length-take-le at'.tokens tokens'' lw) (le_refl _);
      holds = rw same_part (record { at = λ i h. same_points (a.lined.holds.at i h) (a.fresh.from_m i h) });
      facts = rw same_tokens a.lined.facts;
    }

    pub line_elsewhere : (addresses : Reading) → line_read tape (used area'' at') (used_words tokens'' at') addresses v ≡ line addresses
    line_elsewhere addresses = let ts = same_tokens in cc (a.line_is addresses)
