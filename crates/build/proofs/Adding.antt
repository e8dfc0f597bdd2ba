-- A new line and its word. Assumes nothing.
use Prim.Native.Nat.{ℕ, ◌-◌, ◌<◌}
use native.Mathlib.Omega.{arith}
use native.Mathlib.Nat.{le_refl}
use mathlib.Core.Path.{◌≡◌, refl, ap, ◌∙◌}
use mathlib.Core.List.{List, []}
use lib.ListN.{length, take, drop, length-drop}
use lib.Seq.{slice, slice_empty, take_all, length-take-le, length-slice}
use Rattle.reference.specs.Text.{Text}
use Rattle.reference.specs.Listing.{Token, Line, with_tokens}
use Rattle.reference.specs.Numbers.{merge, fold}
use Rattle.reference.specs.Join.{substitute, rewrite_use}
use Rattle.lines.specs.Words.{tokens_of}
use Rattle.lines.specs.Lines.{Reading, first_of, count_of, facts_of, part_of, with_part, line_read, Lined}
use Rattle.lines.proofs.words.Lines.{count-below, with_first, with_count, with_factless, with_read, no_facts}
use Rattle.lines.specs.declared.texts.Size.{Size}
use Rattle.build.specs.State.{used, words_from, LineAdded}
use Rattle.build.specs.Added.{used_words, Added}

module _ {tape area : Text} {tokens : List ℕ} {at : Size} {out : List Token} {n k : ℕ} {area' : Text} {tokens' : List ℕ} {at' : Size}
    (l : LineAdded tape area tokens at out n k area' tokens' at') (w : ℕ) (hf : at.tokens < 65536) (hk : k < 2048) where
  -- what its word asks
  pub count_fits : at'.tokens - at.tokens < 2048
  count_fits = omega (arith, l.words_most)

  module _ {v : ℕ} (ev : v ≡ with_part w at.tokens (at'.tokens - at.tokens)) where
    first_is : first_of v ≡ at.tokens
    first_is = ap first_of ev ∙ with_first w at.tokens (at'.tokens - at.tokens) hf count_fits

    count_is : count_of v ≡ at'.tokens - at.tokens
    count_is = ap count_of ev ∙ with_count w at.tokens (at'.tokens - at.tokens) hf count_fits

    words_are : take (at'.tokens - at.tokens) (drop at.tokens (used_words tokens' at')) ≡ words_from at.tokens tokens' at'
    words_are =
        take_all (at'.tokens - at.tokens) (slice at.tokens at'.tokens tokens')
        (rw (length-slice at.tokens at'.tokens tokens' l.built.words_fit) (le_refl _))

    part_is : part_of (used_words tokens' at') v ≡ words_from at.tokens tokens' at'
    part_is = rw (first_is, count_is) words_are

    added : (line : Reading → Line) → ((addresses : Reading) → with_tokens out (line_read tape (used area' at') (used_words tokens' at') addresses w) ≡ line addresses)
        → Added tape area tokens at line n k area' tokens' at' v
    added line e =
        let none : words_from at.tokens tokens at ≡ [] = slice_empty at.tokens tokens in
        record {
          lined = record {
            inside = rw (first_is, count_is, length-take-le at'.tokens tokens' l.built.words_fit) (omega (arith, l.built.after));
            holds = rw part_is l.built.holds;
            facts = no_facts _ (ap facts_of ev ∙ with_factless w at.tokens (at'.tokens - at.tokens) hf count_fits);
          };
          line_is = λ addresses.
              ap (line_read tape (used area' at') (used_words tokens' at') addresses) ev
              ∙ with_read w at.tokens (at'.tokens - at.tokens) hf count_fits tape (used area' at') (used_words tokens' at') addresses
              ∙ rw (words_are, l.line_is) (e addresses);
          first_is = first_is;
          end_is = rw count_is (omega (arith, l.built.after));
          fresh = rw part_is (l.grows.fresh at.text (le_refl _) (record { from_m = rw none (λ i h. absurd (omega arith)) }));
          lines_are = l.grows.lines_are;
          words_below = l.grows.words_below;
          text_below = l.grows.text_below;
          text_grows = l.grows.text_grows;
          text_most = l.text_most;
          words_most = l.words_most;
        }

pub part_length : {tape area : Text} {words : List ℕ} {w : ℕ} → Lined tape area words w → length (part_of words w) ≡ count_of w
part_length {words = words} {w} i = length-take-le (count_of w) (drop (first_of w) words) (rw length-drop (omega (arith, i.inside)))

-- a line kept, and a line rewritten: the address and the indent are the old line's
module _ {tape old : Text} {words : List ℕ} {w : ℕ} (i : Lined tape old words w) {area : Text} {tokens : List ℕ} {at : Size} {area' : Text} {tokens' : List ℕ} {at' : Size}
    (hf : at.tokens < 65536) {v : ℕ} (ev : v ≡ with_part w at.tokens (at'.tokens - at.tokens)) where
  pub added-kept : {n : ℕ} → LineAdded tape area tokens at (tokens_of tape old (part_of words w)) n (length (part_of words w)) area' tokens' at'
      → Added tape area tokens at (λ addresses. line_read tape old words addresses w) n (count_of w) area' tokens' at' v
  added-kept l =
      rw (part_length i) at (added l w hf (omega (arith, part_length i, count-below w)) ev (λ addresses. line_read tape old words addresses w) (λ addresses. refl))

  pub added_rewritten : (edition : ℕ) (name : Text) (right : List Token) {n k : ℕ} → k < 2048
      → LineAdded tape area tokens at (fold edition (merge (substitute name right (tokens_of tape old (part_of words w))))) n k area' tokens' at'
      → Added tape area tokens at (λ addresses. rewrite_use edition name right (line_read tape old words addresses w)) n k area' tokens' at' v
  unfolding rewrite_use
  added_rewritten edition name right hk l = added l w hf hk ev (λ addresses. rewrite_use edition name right (line_read tape old words addresses w)) (λ addresses. refl)
