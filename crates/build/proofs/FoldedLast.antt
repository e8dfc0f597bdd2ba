-- The last line of a set, folded: a part of its words. Assumes nothing.
use Prim.Native.Nat.{ℕ, ◌+◌, ◌-◌, ◌≤◌}
use native.Mathlib.Omega.{arith}
use native.Mathlib.Nat.{le_refl}
use mathlib.Core.Path.{◌≡◌, refl, ◌∙◌}
use mathlib.Core.List.{List, ◌++◌}
use lib.ListN.{length, take, drop, length-append, length-take, length-drop}
use lib.Seq.{take-append-le, take_at, drop_at, length-take-le}
use Rattle.reference.specs.Text.{Text}
use Rattle.laws.proofs.Parts.{drop-take}
use Rattle.lines.proofs.words.Tokens.{holds_none}
use Rattle.lines.specs.declared.texts.Size.{Size}
use Rattle.build.specs.declared.fold.Folding.{Folding}
use Rattle.build.specs.State.{used, words_from, line_now, Room, Built}
use Rattle.build.specs.Folding.{signs_room, Foldable, Folded, FoldedLast}

module _ {tape area : Text} {tokens : List ℕ} {from : ℕ} {at : Size} (b : Built tape area tokens from at) where
  -- the words of the line
  abbrev line : List ℕ
  line = take (at.tokens - from) (drop from tokens)

  line_words : words_from from tokens at ≡ line
  line_words = drop-take from at.tokens tokens

  pub foldable-last : Room area tokens at (signs_room (line_now tape area tokens from at)) 0 → Foldable tape area line (record { kept = 0; next = 0; text = at.text })
  foldable-last r = record {
    kept_first = le_refl _;
    inside = omega arith;
    done = holds_none tape (used area at);
    left = rw line_words at b.holds;
    text_fits = rw line_words at r.text_fits;
    short = rw line_words at r.short;
  }

  module _ {edition : ℕ} {area' : Text} {line' : List ℕ} {f : Folding} (rest : List ℕ) (h : Folded edition tape area line at.text area' line' f)
      (la : length area' ≡ length area) (ll : length line' ≡ length line) where
    abbrev tokens' : List ℕ
    tokens' = take from tokens ++ (line' ++ rest)

    abbrev at' : Size
    at' = record { lines = at.lines; tokens = from + f.kept; text = f.text }

    front : length (take from tokens) ≡ from
    front = length-take-le from tokens (omega (arith, b.after, b.words_fit))

    words-now : words_from from tokens' at' ≡ take f.kept line'
    words-now =
        let e : from + f.kept - from ≡ f.kept = omega arith in
        drop-take from (from + f.kept) tokens'
        ∙ rw (e, drop_at (take from tokens) (line' ++ rest) from front) (take-append-le f.kept line' rest (omega (arith, h.kept_inside)))

    pub folded-last : Room area tokens at (signs_room (line_now tape area tokens from at)) 0 → FoldedLast edition tape area tokens from at area' tokens' at'
    folded-last r =
        let most : f.text ≤ at.text + signs_room (line_now tape area tokens from at) = rw line_words h.text_most in
        record {
          built = record {
            text_fits = omega (arith, r.text_fits);
            words_fit = rw (length-append, length-append, front) (omega (arith, h.kept_inside));
            after = omega arith;
            holds = rw words-now h.holds;
          };
          line_is = rw (words-now, line_words) h.line_is;
          grows = record {
            lines_are = refl;
            words_below = take_at (take from tokens) (line' ++ rest) from front;
            text_grows = h.text_grows;
            text_below = h.text_below;
            fresh = λ m i w. rw words-now (h.fresh m i (rw line_words at w));
          };
          text_most = most;
          words_most = omega (arith, h.kept_inside, length-take (at.tokens - from) (drop from tokens), length-drop from tokens, b.after);
        }
