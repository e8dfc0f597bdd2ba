-- A word that was coded, and what it is of a token of the same kind and text elsewhere. Assumes nothing.
use Prim.Native.Nat.{ℕ, ◌/◌, ◌%◌}
use native.Mathlib.Omega.{arith}
use mathlib.Core.Path.{◌≡◌, sym, ◌∙◌}
use mathlib.Core.List.{[]}
use lib.ListN.{take, drop}
use Rattle.reference.specs.Text.{Text}
use Rattle.lines.specs.Words.{kind_of, buffer_of, start_of, len_of, coding_of, with_coding, text_of, Points, Recoded}
use Rattle.lines.proofs.words.Tokens.{coded_as, in_tape}

-- all stays but what is known of the text
pub coded_parts : (w c m : ℕ) → with_coding w c m % 68719476736 ≡ w % 68719476736
unfolding with_coding
coded_parts w c m = omega arith

module _ (v w : ℕ) (e : v % 68719476736 ≡ w % 68719476736) where
  pub same_kind : kind_of v ≡ kind_of w
  unfolding kind_of
  same_kind = omega arith

  pub same_buffer : buffer_of v ≡ buffer_of w
  unfolding buffer_of
  same_buffer = omega arith

  pub same_start : start_of v ≡ start_of w
  unfolding start_of
  same_start = omega arith

  pub same_len : len_of v ≡ len_of w
  unfolding len_of
  same_len = omega arith

-- A word r of a text in a tape, and a word of the same kind and text, which stands elsewhere in a tape, with what r says above its parts: it is a
-- coded word there.
module _ (tape tape' : Text) (r w r' : ℕ) (above : r' / 68719476736 ≡ r / 68719476736) (parts : r' % 68719476736 ≡ w % 68719476736)
    (b : buffer_of r ≡ 0) (b' : buffer_of w ≡ 0) (k : kind_of r ≡ kind_of w)
    (text : take (len_of w) (drop (start_of w) tape') ≡ take (len_of r) (drop (start_of r) tape)) (p : Points tape [] r) where
  same_text : (area : Text) → text_of tape' area r' ≡ text_of tape [] r
  unfolding text_of
  same_text area =
      rw (same_buffer r' w parts, same_start r' w parts, same_len r' w parts, in_tape tape' area b', in_tape tape [] b) text

  same_coding : coding_of r' ≡ coding_of r
  unfolding coding_of
  same_coding = above

  pub recoded_elsewhere : Recoded tape' w r'
  unfolding text_of
  recoded_elsewhere = record {
    means = λ area. rw (same_kind r' w parts, same_buffer r' w parts, same_start r' w parts, same_len r' w parts);
    points = λ area q. record {
      inside = rw (same_buffer r' w parts, same_start r' w parts, same_len r' w parts) q.inside;
      short = rw (same_start r' w parts, same_len r' w parts) q.short;
      coded = coded_as tape [] tape' area r r' (same_kind r' w parts ∙ sym k) same_coding (same_text area) p.coded;
    };
  }
