-- A new line at the end of a set: kept token by token, or merged and folded. Assumes nothing.
use Prim.Native.Nat.{ℕ, ◌+◌, ◌<◌}
use native.Mathlib.Omega.{arith}
use native.Mathlib.Nat.{le_refl}
use mathlib.Core.Path.{◌≡◌, ap, ◌∙◌}
use mathlib.Core.List.{List, [], ◌∷◌, ◌++◌}
use lib.ListN.{length, get_or, take, drop}
use Rattle.reference.specs.Text.{Text}
use Rattle.reference.specs.Listing.{Token}
use Rattle.reference.specs.Numbers.{merge, fold}
use Rattle.reference.specs.Claim.{sum, size, text_in}
use Rattle.reference.proofs.Weights.{sum-append}
use Rattle.joining.specs.Limits.{room, over}
use Rattle.lines.specs.Words.{len_of, token_of, tokens_of, Points}
use Rattle.lines.proofs.words.Tokens.{text_length}
use Rattle.lines.specs.declared.texts.Size.{Size}
use Rattle.build.specs.State.{line_now, Room, Appends, LineAdded}
use Rattle.build.specs.Folding.{signs_room, FoldedLast}
use Rattle.build.proofs.Growing.{built_appended, line_appended, grows_appended}
use Rattle.build.proofs.Pushes.{grows_then, tokens_more, tokens-split}
use Rattle.build.proofs.Rooms.{room_covers}

-- ---- kept, token by token

module _ {tape area : Text} {tokens : List ℕ} {at : Size} {out : List Token} {n k : ℕ} {area' : Text} {tokens' : List ℕ} {at' : Size}
    (l : LineAdded tape area tokens at out n k area' tokens' at') where
  pub line_added_kept : {t : Token} {m : ℕ} {area'' : Text} {tokens'' : List ℕ} {at'' : Size} → Appends tape area' tokens' at' at'.tokens t m area'' tokens'' at''
      → length area'' ≡ length area' → length tokens'' ≡ length tokens' → Room area' tokens' at' m 1
      → LineAdded tape area tokens at (out ++ (t ∷ [])) (n + m) (k + 1) area'' tokens'' at''
  line_added_kept {t} a la lt r =
      let b = l.built in
      let more = r.text_fits in
      let below : at'.tokens < length tokens' = omega (arith, r.words_fit) in
      record {
        built = built_appended b a b.after (le_refl _) la lt more below;
        line_is = line_appended b a b.after (le_refl _) la lt more below ∙ ap (λ (o : List Token). o ++ (t ∷ [])) l.line_is;
        grows = grows_then l.grows (grows_appended b a b.after (le_refl _) la lt more below);
        text_most = omega (arith, a.text_most, l.text_most);
        words_most = omega (arith, a.words_are, l.words_most);
      }

-- the words of the old line
module _ (tape old : Text) (ws : List ℕ) (i : ℕ) (h : i < length ws) (p : Points tape old (get_or ws i 0)) where
  text_next : text_in (tokens_of tape old (take (i + 1) ws)) ≡ text_in (tokens_of tape old (take i ws)) + len_of (get_or ws i 0)
  text_next =
      ap text_in (tokens_more tape old ws i h) ∙ sum-append size (tokens_of tape old (take i ws)) (token_of tape old (get_or ws i 0) ∷ []) ∙ omega (arith, text_length p)

  pub line_added_next : {area : Text} {tokens : List ℕ} {at : Size} {area' : Text} {tokens' : List ℕ} {at' : Size}
      → LineAdded tape area tokens at (tokens_of tape old (take i ws) ++ (token_of tape old (get_or ws i 0) ∷ []))
      (text_in (tokens_of tape old (take i ws)) + len_of (get_or ws i 0)) (i + 1) area' tokens' at'
      → LineAdded tape area tokens at (tokens_of tape old (take (i + 1) ws)) (text_in (tokens_of tape old (take (i + 1) ws))) (i + 1) area' tokens' at'
  line_added_next l = rw (text_next, tokens_more tape old ws i h) l

  pub room_next : {area : Text} {tokens : List ℕ} {at : Size} {out : List Token} {area' : Text} {tokens' : List ℕ} {at' : Size}
      → LineAdded tape area tokens at out (text_in (tokens_of tape old (take i ws))) i area' tokens' at'
      → Room area tokens at (text_in (tokens_of tape old ws)) (length ws) → length area' ≡ length area → length tokens' ≡ length tokens
      → Room area' tokens' at' (len_of (get_or ws i 0)) 1
  room_next l r la lt =
      let all : text_in (tokens_of tape old ws) ≡ text_in (tokens_of tape old (take i ws)) + (size (token_of tape old (get_or ws i 0)) + text_in (tokens_of tape old (drop (i + 1) ws))) =
      ap text_in (tokens-split tape old ws i h) ∙ sum-append size (tokens_of tape old (take i ws)) _ in
      record {
        text_fits = omega (arith, r.text_fits, l.text_most, text_length p);
        short = omega (arith, r.short, l.text_most, text_length p);
        words_fit = omega (arith, r.words_fit, l.words_most);
      }

-- ---- merged and folded

module _ {area : Text} {tokens : List ℕ} {at : Size} (ts : List Token) (short : sum over ts ≡ 0) (r : Room area tokens at (sum room ts) (length ts)) where
  pub room-merge : Room area tokens at (text_in ts) (length ts)
  room-merge =
      record { text_fits = omega (arith, r.text_fits, room_covers ts short); short = omega (arith, r.short, room_covers ts short); words_fit = r.words_fit }

  module _ {tape area' : Text} {tokens' : List ℕ} {at' : Size} (l : LineAdded tape area tokens at (merge ts) (text_in ts) (length ts) area' tokens' at') where
    pub room-fold : length area' ≡ length area → length tokens' ≡ length tokens → Room area' tokens' at' (signs_room (line_now tape area' tokens' at.tokens at')) 0
    room-fold la lt = rw l.line_is (record {
      text_fits = omega (arith, r.text_fits, room_covers ts short, l.text_most);
      short = omega (arith, r.short, room_covers ts short, l.text_most);
      words_fit = omega (arith, r.words_fit, l.words_most);
    })

    pub line_added_folded : {edition : ℕ} {area'' : Text} {tokens'' : List ℕ} {at'' : Size} → FoldedLast edition tape area' tokens' at.tokens at' area'' tokens'' at''
        → LineAdded tape area tokens at (fold edition (merge ts)) (sum room ts) (length ts) area'' tokens'' at''
    line_added_folded {edition} f = record {
      built = f.built;
      line_is = f.line_is ∙ ap (fold edition) l.line_is;
      grows = grows_then l.grows f.grows;
      text_most = omega (arith, room_covers ts short, l.text_most, ap signs_room l.line_is, f.text_most);
      words_most = omega (arith, l.words_most, f.words_most);
    }
