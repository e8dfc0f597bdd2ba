-- Laws of token words: bounds, what a word that was made means, shorter parts, and lists of words that point into their texts. `Points` and
-- `Holds` go from one list and one area to another by these alone. Assumes nothing.
use Prim.Native.Nat.{ℕ, ◌+◌, ◌-◌, ◌≤◌, ◌<◌}
use native.Mathlib.Omega.{arith}
use native.Mathlib.Decide.{ℕ_discrete}
use native.Mathlib.Nat.{le_refl}
use mathlib.Core.Logic.{by_cases, inl, inr}
use mathlib.Core.Path.{◌≡◌, refl, sym, ap, ◌∙◌}
use mathlib.Core.List.{List, [], ◌∷◌, ◌++◌}
use lib.ListN.{length, take, drop, get_or, set, length-take, length-drop, length-append}
use lib.Seq.{paste, drop-drop, take-take, take-append_seam, take-paste, take-length, drop_at}
use borrow.Author.Tests.{eq-eqb, ne_eqb}
use Rattle.reference.specs.Text.{Text}
use Rattle.reference.specs.Listing.{token}
use Rattle.laws.proofs.Parts.{drop-take, part-below}
use Rattle.laws.proofs.Scans.{if-true, if-false}
use Rattle.lines.specs.Words.{kind_of, buffer_of, start_of, len_of, coding_of, code_of, traits_of, word, with_coding, known_word, moved, without_first, first_bytes}
use Rattle.lines.specs.Traits.{traits}
use Rattle.lines.specs.Words.{source, text_of, token_of, tokens_of, Coded, Points, Holds}
use Rattle.lines.proofs.words.Each.{each_none, each_one, each_take, each-drop, each_append, each_set, map_same}

pub kind_below : (w : ℕ) → kind_of w < 8
unfolding kind_of
kind_below w = omega arith

pub place_below : (w : ℕ) → buffer_of w < 2
unfolding buffer_of
place_below w = omega arith

pub start_below : (w : ℕ) → start_of w < 65536
unfolding start_of
start_below w = omega arith

pub len_below : (w : ℕ) → len_of w < 65536
unfolding len_of
len_below w = omega arith

-- what the functions that make a token of a part of another's text leave
pub ruleset bounds = (kind_below, place_below, start_below, len_below)

-- ---- reading back what was made

module _ (k p s l : ℕ) (hk : k < 8) (hp : p < 2) (hs : s < 65536) where
  pub word_kind : kind_of (word k p s l) ≡ k
  unfolding word kind_of
  word_kind = omega arith

  pub word_place : buffer_of (word k p s l) ≡ p
  unfolding word buffer_of
  word_place = omega arith

  pub word_start : start_of (word k p s l) ≡ s
  unfolding word start_of
  word_start = omega arith

  module _ (hl : l < 65536) where
    pub word_len : len_of (word k p s l) ≡ l
    unfolding word len_of
    word_len = omega arith

    word-coding : coding_of (word k p s l) ≡ 0
    unfolding word coding_of
    word-coding = omega arith

    module _ (tape area : Text) where
      pub word-means : token_of tape area (word k p s l) ≡ token k (take l (drop s (source tape area p)))
      unfolding text_of
      word-means = rw (word_kind, word_place, word_start, word_len)

      pub word-points : s + l ≤ length (source tape area p) → s + l < 65536 → Points tape area (word k p s l)
      unfolding Coded
      word-points hi ho = record { inside = rw (word_place, word_start, word_len) hi; short = rw (word_start, word_len) ho; coded = inl word-coding }

-- a code and traits change nothing else
module _ (w c m : ℕ) where
  pub coded_kind : kind_of (with_coding w c m) ≡ kind_of w
  unfolding with_coding kind_of
  coded_kind = omega arith

  pub coded_place : buffer_of (with_coding w c m) ≡ buffer_of w
  unfolding with_coding buffer_of
  coded_place = omega arith

  pub coded_start : start_of (with_coding w c m) ≡ start_of w
  unfolding with_coding start_of
  coded_start = omega arith

  pub coded-len : len_of (with_coding w c m) ≡ len_of w
  unfolding with_coding len_of
  coded-len = omega arith

  module _ (h : c < 64) where
    pub coded-code : code_of (with_coding w c m) ≡ c
    unfolding with_coding code_of coding_of
    coded-code = omega arith

    pub coded-traits : traits_of (with_coding w c m) ≡ m
    unfolding with_coding traits_of coding_of
    coded-traits = omega arith

-- a word with the traits of its text, which is t
module _ (k p s : ℕ) (t : Text) (hk : k < 8) (hp : p < 2) (hs : s < 65536) (hl : length t < 65536) where
  abbrev plain : ℕ
  plain = word k p s (length t)

  abbrev m : ℕ
  m = traits (token k t)

  pub known_kind : kind_of (known_word k p s t) ≡ k
  known_kind = coded_kind plain 0 m ∙ word_kind k p s (length t) hk hp hs

  pub known_place : buffer_of (known_word k p s t) ≡ p
  known_place = coded_place plain 0 m ∙ word_place k p s (length t) hk hp hs

  pub known_start : start_of (known_word k p s t) ≡ s
  known_start = coded_start plain 0 m ∙ word_start k p s (length t) hk hp hs

  pub known_len : len_of (known_word k p s t) ≡ length t
  known_len = coded-len plain 0 m ∙ word_len k p s (length t) hk hp hs hl

  module _ (tape area : Text) (e : take (length t) (drop s (source tape area p)) ≡ t) where
    known_text : text_of tape area (known_word k p s t) ≡ t
    unfolding text_of
    known_text = rw (known_place, known_start, known_len) e

    pub known-means : token_of tape area (known_word k p s t) ≡ token k t
    known-means = rw (known_kind, known_text)

    pub known-points : s + length t ≤ length (source tape area p) → s + length t < 65536 → Points tape area (known_word k p s t)
    unfolding Coded
    known-points hi ho = record {
      inside = rw (known_place, known_start, known_len) hi;
      short = rw (known_start, known_len) ho;
      coded = inr (record { code = inl (coded-code plain 0 m (omega arith)); traits = coded-traits plain 0 m (omega arith) ∙ ap traits (sym known-means) });
    }

-- what a word says of its text is true of a word that says the same, of the same kind, where the text is the same
pub coded_as : (tape area tape' area' : Text) (v w : ℕ) → kind_of w ≡ kind_of v → coding_of w ≡ coding_of v → text_of tape' area' w ≡ text_of tape area v
    → Coded tape area v → Coded tape' area' w
unfolding Coded code_of traits_of
coded_as tape area tape' area' v w ek ec et c = rw (ek, ec, et) c

-- and so of the word itself
pub coded_same : (tape area tape' area' : Text) (w : ℕ) → text_of tape area w ≡ text_of tape' area' w → Coded tape area w → Coded tape' area' w
coded_same tape area tape' area' w e c = coded_as tape area tape' area' w w refl refl (sym e) c

-- a word with its text at `s` of the area
module _ (w s : ℕ) (hs : s < 65536) where
  moved_kind : kind_of (moved w s) ≡ kind_of w
  unfolding moved kind_of
  moved_kind = omega arith

  pub moved_place : buffer_of (moved w s) ≡ 1
  unfolding moved kind_of buffer_of
  moved_place = omega arith

  pub moved_start : start_of (moved w s) ≡ s
  unfolding moved kind_of start_of
  moved_start = omega arith

  pub moved-len : len_of (moved w s) ≡ len_of w
  unfolding moved kind_of len_of
  moved-len = omega arith

  moved-coding : coding_of (moved w s) ≡ coding_of w
  unfolding moved kind_of coding_of
  moved-coding = omega arith

  module _ (tape old area : Text) (e : take (len_of w) (drop s (source tape area 1)) ≡ text_of tape old w) where
    moved_text : text_of tape area (moved w s) ≡ text_of tape old w
    unfolding text_of
    moved_text = rw (moved_place, moved_start, moved-len) e

    pub moved-means : token_of tape area (moved w s) ≡ token_of tape old w
    moved-means = rw (moved_kind, moved_text)

    pub moved-points : Points tape old w → s + len_of w ≤ length (source tape area 1) → s + len_of w < 65536 → Points tape area (moved w s)
    moved-points p hi ho = record {
      inside = rw (moved_place, moved_start, moved-len) hi;
      short = rw (moved_start, moved-len) ho;
      coded = coded_as tape old tape area w (moved w s) moved_kind moved-coding moved_text p.coded;
    }

pub in_tape : (tape area : Text) {p : ℕ} → p ≡ 0 → source tape area p ≡ tape
unfolding source
in_tape tape area e = if-true _ _ (eq-eqb _ _ e)

pub in_area : (tape area : Text) {p : ℕ} → (p ≡ 0 → ⊥) → source tape area p ≡ area
unfolding source
in_area tape area e = if-false _ _ (ne_eqb _ _ e)

-- the part of a source that the numbers in hand name is the word's text
pub part_is : (tape area : Text) (w : ℕ) {s l : ℕ} (src : Text) → s ≡ start_of w → l ≡ len_of w → source tape area (buffer_of w) ≡ src
    → take (s + l - s) (drop s src) ≡ text_of tape area w
unfolding text_of
part_is tape area w {s} {l} src es el e = let k : s + l - s ≡ len_of w = omega arith in rw (k, es, e)

-- what `text` leaves
pub ruleset text_parts = (in_tape, in_area, part_is)

-- ---- a text's length, and shorter parts of it

pub text_length : {tape area : Text} {w : ℕ} → Points tape area w → length (text_of tape area w) ≡ len_of w
unfolding text_of
text_length {tape} {area} {w} h = simp (length-take, length-drop) (omega (arith, h.inside))

module _ (tape area : Text) (w n : ℕ) (h : Points tape area w) (hn : n ≤ len_of w) where
  pub without_first-means : token_of tape area (without_first w n) ≡ token (kind_of w) (drop n (text_of tape area w))
  unfolding without_first text_of
  without_first-means =
      word-means (kind_of w) (buffer_of w) (start_of w + n) (len_of w - n) (kind_below w) (place_below w) (omega (arith, h.short)) (omega (arith, len_below w)) tape area
      ∙ rw (drop-take, drop-drop)

  pub without_first-points : Points tape area (without_first w n)
  unfolding without_first
  without_first-points =
      word-points (kind_of w) (buffer_of w) (start_of w + n) (len_of w - n) (kind_below w) (place_below w) (omega (arith, h.short)) (omega (arith, len_below w)) tape area
      (omega (arith, h.inside)) (omega (arith, h.short))

  pub first-bytes-means : token_of tape area (first_bytes w n) ≡ token (kind_of w) (take n (text_of tape area w))
  unfolding first_bytes text_of
  first-bytes-means =
      word-means (kind_of w) (buffer_of w) (start_of w) n (kind_below w) (place_below w) (start_below w) (omega (arith, len_below w)) tape area
      ∙ rw take-take

  pub first-bytes-points : Points tape area (first_bytes w n)
  unfolding first_bytes
  first-bytes-points =
      word-points (kind_of w) (buffer_of w) (start_of w) n (kind_below w) (place_below w) (start_below w) (omega (arith, len_below w)) tape area
      (omega (arith, h.inside)) (omega (arith, h.short))

-- ---- lists of words

pub holds_none : (tape area : Text) → Holds tape area []
holds_none tape area = record { at = each_none (Points tape area) }

module _ {tape area : Text} {ws : List ℕ} (h : Holds tape area ws) where
  pub holds-take : (n : ℕ) → Holds tape area (take n ws)
  holds-take n = record { at = each_take (Points tape area) ws h.at n }

  pub holds-drop : (n : ℕ) → Holds tape area (drop n ws)
  holds-drop n = record { at = each-drop (Points tape area) ws h.at n }

  pub holds_append : {vs : List ℕ} → Holds tape area vs → Holds tape area (ws ++ vs)
  holds_append {vs} g = record { at = each_append (Points tape area) ws h.at vs g.at }

  pub holds_snoc : {w : ℕ} → Points tape area w → Holds tape area (ws ++ (w ∷ []))
  holds_snoc p = record { at = each_append (Points tape area) ws h.at _ (each_one (Points tape area) p) }

  pub holds-set : {w : ℕ} (i : ℕ) → Points tape area w → Holds tape area (set ws i w)
  holds-set i p = record { at = each_set (Points tape area) ws h.at i p }

-- ---- the used part of the area

-- a part of the first n bytes of the area is the same part of the area
module _ {tape : Text} (n : ℕ) (area : Text) {w : ℕ} (h : Points tape (take n area) w) where
  pub text_prefix : text_of tape (take n area) w ≡ text_of tape area w
  unfolding text_of
  text_prefix = by_cases (ℕ_discrete (buffer_of w) 0)
      (λ e. rw (in_tape tape area e, in_tape tape (take n area) e))
      (λ e.
      let b : start_of w + len_of w ≤ n = omega (arith, h.inside, ap length (in_area tape (take n area) e), length-take n area) in
      rw (in_area tape area e, in_area tape (take n area) e) (part-below (start_of w) (len_of w) n area b))

  pub points-prefix : Points tape area w
  points-prefix = record {
    inside = by_cases (ℕ_discrete (buffer_of w) 0)
        (λ e. rw (in_tape tape area e) (rw (in_tape tape (take n area) e) at h.inside))
        (λ e. rw (in_area tape area e) (omega (arith, h.inside, ap length (in_area tape (take n area) e), length-take n area)));
    short = h.short;
    coded = coded_same _ _ _ _ w text_prefix h.coded;
  }

module _ {tape : Text} (n : ℕ) (area : Text) {ws : List ℕ} (h : Holds tape (take n area) ws) where
  pub holds-prefix : Holds tape area ws
  holds-prefix = record { at = λ k l. points-prefix n area (h.at k l) }

  pub tokens-prefix : tokens_of tape (take n area) ws ≡ tokens_of tape area ws
  tokens-prefix = map_same (token_of tape (take n area)) (token_of tape area) ws (λ k l. ap (token (kind_of (get_or ws k 0))) (text_prefix n area (h.at k l)))

-- the area grows beyond its used part
module _ {tape used : Text} (more : Text) {ws : List ℕ} (h : Holds tape used ws) where
  words-front : Holds tape (take (length used) (used ++ more)) ws
  words-front = rw take-append_seam h

  pub holds-grows : Holds tape (used ++ more) ws
  holds-grows = holds-prefix (length used) (used ++ more) words-front

  pub tokens_grow : tokens_of tape (used ++ more) ws ≡ tokens_of tape used ws
  tokens_grow = sym (tokens-prefix (length used) (used ++ more) words-front) ∙ rw take-append_seam

-- ---- a text put behind the text in use, and its word

pub take_behind : (area : Text) (n : ℕ) (s : Text) {area' : Text} → n ≤ length area → area' ≡ paste area n s (length s) → take (n + length s) area' ≡ take n area ++ s
take_behind area n s h e = rw e (take-paste area n s (length s) h (le_refl _) ∙ rw take-length)

module _ (tape front s : Text) (k at : ℕ) (hk : k < 8) (e : length front ≡ at) (short : at + length s < 65536) where
  hs : at < 65536
  hs = omega arith

  hl : length s < 65536
  hl = omega arith

  pub behind-points : Points tape (front ++ s) (word k 1 at (length s))
  behind-points =
      word-points k 1 at (length s) hk (omega arith) hs hl tape (front ++ s) (rw (in_area tape (front ++ s) {p = 1} (λ z. omega arith), length-append) (omega arith)) short

  pub behind-means : token_of tape (front ++ s) (word k 1 at (length s)) ≡ token k s
  behind-means =
      word-means k 1 at (length s) hk (omega arith) hs hl tape (front ++ s) ∙ rw (in_area tape (front ++ s) {p = 1} (λ z. omega arith), drop_at front s at e, take-length)
