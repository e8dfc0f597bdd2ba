-- What the stores of an append come to. Assumes nothing.
use Prim.Native.Nat.{ℕ, ◌+◌, ◌-◌, ◌≤◌, ◌<◌}
use native.Mathlib.Omega.{arith}
use native.Mathlib.Nat.{le_refl}
use mathlib.Core.Path.{◌≡◌, refl, sym, ap, ◌∙◌}
use mathlib.Core.List.{List, ◌++◌}
use lib.ListN.{length, get_or, set, take, drop, length-append, length-drop}
use lib.Seq.{paste, take-length, take-take, take_all, take_at, take-set-le, drop_at, drop-append-le, get_or-set_same, length-take-le}
use Rattle.std.specs.Prelude.{Bool, true, false, ltb}
use Rattle.reference.specs.Control.{when◌then◌else◌}
use Rattle.reference.specs.Text.{Text}
use Rattle.reference.specs.Listing.{Token, token}
use Rattle.laws.proofs.Parts.{drop-take}
use Rattle.laws.proofs.Scans.{if-true, if-false}
use Rattle.std.proofs.Common.{lt-ltb, le-ltb}
use Rattle.lines.specs.Words.{kind_of, buffer_of, start_of, len_of, word, known_word, moved, source, text_of, token_of, Points}
use Rattle.lines.proofs.words.Tokens.{coded_same, kind_below, start_below, known_place, known_start, known_len, known-means, known-points, text_length, in_tape, in_area, take_behind}
use Rattle.lines.proofs.words.Tokens.{word_place, word_start, word_len, word-means, word-points}
use Rattle.lines.proofs.words.Tokens.{moved_place, moved_start, moved-len, moved-means, moved-points}
use Rattle.lines.specs.declared.texts.Size.{Size}
use Rattle.build.specs.State.{word_behind, used, Room, Appends}

one_not_zero : ◌≡◌ {A = ℕ} 1 0 → ⊥
one_not_zero e = omega arith

-- a word stored at `keep`, and a text behind the text in use
module _ (tape area : Text) (tokens : List ℕ) (at : Size) (keep : ℕ) (s : Text) (room : at.text + length s ≤ length area) (below : keep < length tokens) where
  module _ {area' : Text} (e : area' ≡ paste area at.text s (length s)) where
    used_is : take (at.text + length s) area' ≡ used area at ++ s
    used_is = take_behind area at.text s (omega arith) e

    used-length : length (used area at) ≡ at.text
    used-length = length-take-le at.text area (omega arith)

    pub stored : {w v : ℕ} {t : Token} → v ≡ w → Points tape (used area at ++ s) w → token_of tape (used area at ++ s) w ≡ t
        → (buffer_of w ≡ 1 → start_of w + len_of w ≡ at.text + length s)
        → ((m : ℕ) → m ≤ at.text → (keep < at.tokens → buffer_of (get_or tokens keep 0) ≡ 1 → m ≤ start_of (get_or tokens keep 0)) → buffer_of w ≡ 1 → m ≤ start_of w)
        → Appends tape area tokens at keep t (length s) area' (set tokens keep v) (record { lines = at.lines; tokens = keep + 1; text = at.text + length s })
    stored {w} {v} ev p m x f =
        let here : get_or (set tokens keep v) keep 0 ≡ w = get_or-set_same tokens keep v 0 below ∙ ev in
        record {
          lines_are = refl;
          words_are = refl;
          words_below = take-set-le keep tokens keep v (le_refl _);
          text_grows = omega arith;
          text_most = le_refl _;
          text_below = sym (take-take at.text (at.text + length s) area' (omega arith)) ∙ ap (take at.text) used_is ∙ take_at (used area at) s at.text used-length;
          points = rw (used_is, here) p;
          means = rw (used_is, here) m;
          at_end = rw here x;
          fresh = rw here f;
        }

-- ---- the words that are stored

pub place_at : (tokens : List ℕ) (keep k start : ℕ) (s : Text) {v : ℕ} → keep < length tokens → k < 8 → start < 65536 → length s < 65536 → v ≡ known_word k 1 start s
    → buffer_of (get_or (set tokens keep v) keep 0) ≡ 1
place_at tokens keep k start s {v} below hk hs hl ev = ap buffer_of (get_or-set_same tokens keep v 0 below ∙ ev) ∙ known_place k 1 start s hk (omega arith) hs hl

-- the word x of the token of kind k with the text u at `start` of the area
record Tells (tape area : Text) (k start : ℕ) (u : Text) (x : ℕ) : Type 0 where
  place : buffer_of x ≡ 1
  starts : start_of x ≡ start
  size : len_of x ≡ length u
  points : Points tape area x
  means : token_of tape area x ≡ token k u

module _ (k start : ℕ) (u : Text) (hk : k < 8) (hs : start < 65536) (hl : length u < 65536) where
  behind_place : buffer_of (word_behind k start u) ≡ 1
  unfolding when◌then◌else◌
  behind_place = by (ltb 16 (length u))
    where
      by : (b : Bool) → buffer_of (when b then word k 1 start (length u) else known_word k 1 start u) ≡ 1
      by true = word_place k 1 start (length u) hk (omega arith) hs
      by false = known_place k 1 start u hk (omega arith) hs hl

  module _ (tape area : Text) (here : take (length u) (drop start (source tape area 1)) ≡ u) (inside : start + length u ≤ length (source tape area 1))
      (short : start + length u < 65536) where
    known-tells : Tells tape area k start u (known_word k 1 start u)
    known-tells =
        record {
          place = known_place k 1 start u hk (omega arith) hs hl;
          starts = known_start k 1 start u hk (omega arith) hs hl;
          size = known_len k 1 start u hk (omega arith) hs hl;
          points = known-points k 1 start u hk (omega arith) hs hl tape area here inside short;
          means = known-means k 1 start u hk (omega arith) hs hl tape area here;
        }

    behind-tells : Tells tape area k start u (word_behind k start u)
    unfolding when◌then◌else◌
    behind-tells = by (ltb 16 (length u))
      where
        by : (b : Bool) → Tells tape area k start u (when b then word k 1 start (length u) else known_word k 1 start u)
        by true =
            record {
              place = word_place k 1 start (length u) hk (omega arith) hs;
              starts = word_start k 1 start (length u) hk (omega arith) hs;
              size = word_len k 1 start (length u) hk (omega arith) hs hl;
              points = word-points k 1 start (length u) hk (omega arith) hs hl tape area inside short;
              means = word-means k 1 start (length u) hk (omega arith) hs hl tape area ∙ ap (token k) here;
            }
        by false = known-tells

-- the word by its two ways
behind-within : (from end : ℕ) (xs : List ℕ) → end ≤ length xs → length (take (end - from) (drop from xs)) ≡ end - from
behind-within from end xs h = length-take-le (end - from) (drop from xs) (omega (arith, length-drop from xs))

module _ (k from end : ℕ) (xs : List ℕ) (h : end ≤ length xs) where
  abbrev part : Text
  part = take (end - from) (drop from xs)

  pub behind-long : 16 < end - from → word k 1 from (end - from) ≡ word_behind k from part
  behind-long g =
      let b : ltb 16 (length part) ≡ true = rw (behind-within from end xs h) (lt-ltb 16 (end - from) g) in
      ap (word k 1 from) (sym (behind-within from end xs h)) ∙ sym (if-true _ _ b)

  pub behind-short : end - from ≤ 16 → known_word k 1 from part ≡ word_behind k from part
  behind-short g =
      let b : ltb 16 (length part) ≡ false = rw (behind-within from end xs h) (le-ltb 16 (end - from) g) in
      sym (if-false _ _ b)

pub behind_at : (tokens : List ℕ) (keep k start : ℕ) (s : Text) {v : ℕ} → keep < length tokens → k < 8 → start < 65536 → length s < 65536 → v ≡ word_behind k start s
    → buffer_of (get_or (set tokens keep v) keep 0) ≡ 1
behind_at tokens keep k start s {v} below hk hs hl ev = ap buffer_of (get_or-set_same tokens keep v 0 below ∙ ev) ∙ behind_place k start s hk hs hl

-- a token with a copy of its text
module _ (tape area : Text) (tokens : List ℕ) (at : Size) (k : ℕ) (s : Text) (hk : k < 8) (r : Room area tokens at (length s) 1) where
  pub copied : {area' : Text} {v : ℕ} → area' ≡ paste area at.text s (length s) → v ≡ known_word k 1 at.text s
      → Appends tape area tokens at at.tokens (token k s) (length s) area' (set tokens at.tokens v) (record { lines = at.lines; tokens = at.tokens + 1; text = at.text + length s })
  copied e ev =
      let ul : length (used area at) ≡ at.text = length-take-le at.text area (omega (arith, r.text_fits)) in
      let hs : at.text < 65536 = omega (arith, r.short) in
      let hl : length s < 65536 = omega (arith, r.short) in
      let here : take (length s) (drop at.text (source tape (used area at ++ s) 1)) ≡ s = rw (in_area tape (used area at ++ s) one_not_zero, drop_at (used area at) s at.text ul, take-length) in
      stored tape area tokens at at.tokens s r.text_fits (omega (arith, r.words_fit)) e ev
      (known-points k 1 at.text s hk (omega arith) hs hl tape (used area at ++ s) here (rw (in_area tape (used area at ++ s) one_not_zero, length-append) (omega arith)) r.short)
      (known-means k 1 at.text s hk (omega arith) hs hl tape (used area at ++ s) here)
      (λ _. rw (known_start k 1 at.text s hk (omega arith) hs hl, known_len k 1 at.text s hk (omega arith) hs hl))
      (λ m h _ _. rw (known_start k 1 at.text s hk (omega arith) hs hl) h)

-- more text for the last token
module _ (tape area : Text) (tokens : List ℕ) (at : Size) (n : ℕ) (s : Text) (r : Room area tokens at (length s) 0) (below : n < at.tokens)
    (pl : buffer_of (get_or tokens n 0) ≡ 1) (ends : start_of (get_or tokens n 0) + len_of (get_or tokens n 0) ≡ at.text) where
  abbrev w : ℕ
  w = get_or tokens n 0

  abbrev front : Text
  front = drop (start_of w) (used area at)

  ul : length (used area at) ≡ at.text
  ul = length-take-le at.text area (omega (arith, r.text_fits))

  whole : take (len_of w) front ≡ front
  whole = take_all (len_of w) front (rw length-drop (omega (arith, ul)))

  -- the text of the token with the text behind it, as it stands in the area
  pub joined : {area' : Text} → area' ≡ paste area at.text s (length s) → take (at.text + length s - start_of w) (drop (start_of w) area') ≡ front ++ s
  joined {area'} e =
      sym (drop-take (start_of w) (at.text + length s) area') ∙ rw (take_behind area at.text s (omega (arith, r.text_fits)) e) (drop-append-le (start_of w) (used area at) s (omega (arith, ul)))

  -- the whole text u
  module _ {u : Text} (eu : u ≡ front ++ s) where
    whole-length : length u ≡ len_of w + length s
    whole-length = ap length eu ∙ rw (length-append, length-drop) (omega (arith, ul))

    whole_here : take (length u) (drop (start_of w) (source tape (used area at ++ s) 1)) ≡ u
    whole_here = rw (in_area tape (used area at ++ s) one_not_zero, drop-append-le (start_of w) (used area at) s (omega (arith, ul)), ← eu) (take-length u)

    whole_inside : start_of w + length u ≤ length (source tape (used area at ++ s) 1)
    whole_inside = rw (in_area tape (used area at ++ s) one_not_zero, length-append) (omega (arith, ul, whole-length))

  -- by any word x that tells it
  told : {area' u : Text} {v x : ℕ} → area' ≡ paste area at.text s (length s) → u ≡ front ++ s → v ≡ x → Tells tape (used area at ++ s) (kind_of w) (start_of w) u x
      → Appends tape area tokens at n (token (kind_of w) (text_of tape (used area at) w ++ s)) (length s) area' (set tokens n v)
      (record { lines = at.lines; tokens = n + 1; text = at.text + length s })
  unfolding text_of
  told e eu ev x =
      stored tape area tokens at n s r.text_fits (omega (arith, r.words_fit)) e ev x.points
      (x.means ∙ ap (token (kind_of w)) (rw (pl, in_area tape (used area at) one_not_zero, whole) eu))
      (λ _. rw (x.starts, x.size) (omega (arith, whole-length eu)))
      (λ m h f _. rw x.starts (f below pl))

  pub lengthened : {area' u : Text} {v : ℕ} → area' ≡ paste area at.text s (length s) → u ≡ front ++ s → v ≡ known_word (kind_of w) 1 (start_of w) u
      → Appends tape area tokens at n (token (kind_of w) (text_of tape (used area at) w ++ s)) (length s) area' (set tokens n v)
      (record { lines = at.lines; tokens = n + 1; text = at.text + length s })
  lengthened {u = u} e eu ev =
      told e eu ev
      (known-tells (kind_of w) (start_of w) u (kind_below w) (start_below w) (omega (arith, r.short, whole-length eu)) tape (used area at ++ s) (whole_here eu) (whole_inside eu)
      (omega (arith, r.short, whole-length eu)))

  -- the same, where k tokens are then in use
  pub lengthened-to : {area' u : Text} {v k : ℕ} → area' ≡ paste area at.text s (length s) → u ≡ front ++ s → v ≡ known_word (kind_of w) 1 (start_of w) u → n + 1 ≡ k
      → Appends tape area tokens at n (token (kind_of w) (text_of tape (used area at) w ++ s)) (length s) area' (set tokens n v)
      (record { lines = at.lines; tokens = k; text = at.text + length s })
  lengthened-to e eu ev ek = rw (← ek) (lengthened e eu ev)

  -- both, where of a long text no traits are kept in the word
  pub lengthened_behind : {area' u : Text} {v : ℕ} → area' ≡ paste area at.text s (length s) → u ≡ front ++ s → v ≡ word_behind (kind_of w) (start_of w) u
      → Appends tape area tokens at n (token (kind_of w) (text_of tape (used area at) w ++ s)) (length s) area' (set tokens n v)
      (record { lines = at.lines; tokens = n + 1; text = at.text + length s })
  lengthened_behind {u = u} e eu ev =
      told e eu ev
      (behind-tells (kind_of w) (start_of w) u (kind_below w) (start_below w) (omega (arith, r.short, whole-length eu)) tape (used area at ++ s) (whole_here eu) (whole_inside eu)
      (omega (arith, r.short, whole-length eu)))

  pub lengthened_behind-to : {area' u : Text} {v k : ℕ} → area' ≡ paste area at.text s (length s) → u ≡ front ++ s → v ≡ word_behind (kind_of w) (start_of w) u → n + 1 ≡ k
      → Appends tape area tokens at n (token (kind_of w) (text_of tape (used area at) w ++ s)) (length s) area' (set tokens n v)
      (record { lines = at.lines; tokens = k; text = at.text + length s })
  lengthened_behind-to e eu ev ek = rw (← ek) (lengthened_behind e eu ev)

-- a token that stays in the tape
module _ (tape old area : Text) (tokens : List ℕ) (at : Size) (w : ℕ) (pl : buffer_of w ≡ 0) (below : at.tokens < length tokens) where
  pub unmoved : Points tape old w → Appends tape area tokens at at.tokens (token_of tape old w) 0 area (set tokens at.tokens w) (record { lines = at.lines; tokens = at.tokens + 1; text = at.text })
  unfolding text_of
  unmoved p =
      let here : get_or (set tokens at.tokens w) at.tokens 0 ≡ w = get_or-set_same tokens at.tokens w 0 below in
      record {
        lines_are = refl;
        words_are = refl;
        words_below = take-set-le at.tokens tokens at.tokens w (le_refl _);
        text_grows = le_refl _;
        text_most = omega arith;
        text_below = refl;
        points = rw here (record {
          inside = rw (in_tape tape (used area at) pl) (rw (in_tape tape old pl) at p.inside);
          short = p.short;
          coded = coded_same tape old tape (used area at) w (rw (in_tape tape (used area at) pl, in_tape tape old pl)) p.coded;
        });
        means = rw (here, in_tape tape (used area at) pl, in_tape tape old pl);
        at_end = rw here (λ e. absurd (omega arith));
        fresh = rw here (λ m h f e. absurd (omega arith));
      }

-- the same token, and a larger bound
pub appends_within : {tape area : Text} {tokens : List ℕ} {at : Size} {keep : ℕ} {t u : Token} {n k : ℕ} {area' : Text} {tokens' : List ℕ} {at' : Size}
    → t ≡ u → n ≤ k → Appends tape area tokens at keep t n area' tokens' at' → Appends tape area tokens at keep u k area' tokens' at'
appends_within e h a = record {
  lines_are = a.lines_are;
  words_are = a.words_are;
  words_below = a.words_below;
  text_grows = a.text_grows;
  text_most = omega (arith, a.text_most);
  text_below = a.text_below;
  points = a.points;
  means = a.means ∙ e;
  at_end = a.at_end;
  fresh = a.fresh;
}

pub room_within : {area : Text} {tokens : List ℕ} {at : Size} {n k m l : ℕ} → m ≤ n → l ≤ k → Room area tokens at n k → Room area tokens at m l
room_within h i r = record { text_fits = omega (arith, r.text_fits); short = omega (arith, r.short); words_fit = omega (arith, r.words_fit) }

-- ---- a copy

-- a token of the old listing with a copy of its text, s
module _ (tape old area : Text) (tokens : List ℕ) (at : Size) (w : ℕ) (p : Points tape old w) (r : Room area tokens at (len_of w) 1)
    {s : Text} (es : s ≡ text_of tape old w) where
  size : length s ≡ len_of w
  size = ap length es ∙ text_length p

  short : at.text < 65536
  short = omega (arith, r.short)

  pub copied_word : {area' : Text} {v : ℕ} → area' ≡ paste area at.text s (length s) → v ≡ moved w at.text
      → Appends tape area tokens at at.tokens (token_of tape old w) (len_of w) area' (set tokens at.tokens v) (record { lines = at.lines; tokens = at.tokens + 1; text = at.text + length s })
  copied_word e ev =
      let ul : length (used area at) ≡ at.text = length-take-le at.text area (omega (arith, r.text_fits)) in
      let at-end = in_area tape (used area at ++ s) one_not_zero in
      let here : take (len_of w) (drop at.text (source tape (used area at ++ s) 1)) ≡ text_of tape old w =
      rw (at-end, drop_at (used area at) s at.text ul, ← size, take-length) es in
      appends_within refl (omega (arith, size)) (stored tape area tokens at at.tokens s (omega (arith, r.text_fits, size)) (omega (arith, r.words_fit)) e ev
      (moved-points w at.text short tape old (used area at ++ s) here p (rw (at-end, length-append) (omega (arith, size, ul))) (omega (arith, r.short)))
      (moved-means w at.text short tape old (used area at ++ s) here)
      (λ _. rw (moved_start w at.text short, moved-len w at.text short) (omega (arith, size)))
      (λ m h _ _. rw (moved_start w at.text short) h))

  pub copied_place : {v : ℕ} → v ≡ moved w at.text → buffer_of (get_or (set tokens at.tokens v) at.tokens 0) ≡ 1
  copied_place {v} ev = ap buffer_of (get_or-set_same tokens at.tokens v 0 (omega (arith, r.words_fit)) ∙ ev) ∙ moved_place w at.text short
