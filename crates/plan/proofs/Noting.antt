-- The names that are addressed, copied into a buffer one after the other: names so far, then those that are still to come, are all; and so for the
-- bytes and the words that they take. Assumes nothing.
use Prim.Native.Nat.{ℕ, suc, ◌+◌, ◌-◌, ◌≤◌, ◌<◌}
use native.Mathlib.Omega.{arith}
use native.Mathlib.Nat.{le_refl}
use native.Mathlib.Numerals.{add-one}
use mathlib.Core.Path.{◌≡◌, refl, sym, ap, ◌∙◌}
use mathlib.Core.Bool.{Bool, true, false}
use mathlib.Core.List.{List, [], ◌∷◌, ◌++◌, map-append, append_assoc, append-nil}
use lib.ListN.{length, take, drop, get_or, set, length-map, length-drop, length-append, length-set, drop_of_length-le, get_or-map}
use lib.Seq.{paste, length-paste, drop-cons, take-append_seam, take-suc-set, length-take-le}
use Rattle.reference.specs.Control.{◌and◌, when◌then◌else◌}
use Rattle.reference.specs.Lists.{windows}
use Rattle.reference.specs.Text.{Text, bytes, starts_with, ends_with}
use Rattle.reference.specs.Listing.{Token, Listing, blank}
use Rattle.reference.specs.Claim.{text_in, token_count, text}
use Rattle.reference.specs.Run.{addressed_here, addressed_in}
use Rattle.reference.proofs.Cases.{by-if}
use Rattle.laws.proofs.Scans.{if-true, if-false, and_true, and_false}
use Rattle.laws.proofs.Parts.{part-below}
use Rattle.lines.specs.Words.{buffer_of, start_of, len_of, word, source, text_of, token_of, tokens_of, Points, Holds}
use Rattle.lines.specs.Lines.{part_of, bare_in, bare_listing}
use Rattle.lines.proofs.words.Each.{map_same}
use Rattle.lines.proofs.words.Tokens.{coded_same, text_length, holds_snoc, take_behind, behind-points, behind-means}
use Rattle.lines.proofs.words.Lines.{bare_at}
use Rattle.std.proofs.Common.{Option, Some, None, Bor, add-zero}
use Rattle.std.specs.declared.slice.Windows.{Windows}
use Rattle.std.specs.Slice.Iter.{windows_rest, windows_size, windows_steps}
use Rattle.std.proofs.lemmas.Iterator.{window_more}
use Rattle.plan.specs.declared.slots.SlotBuffer.{SlotBuffer}
use Rattle.plan.specs.Slots.{slot_names, names_now, Slotting, Roomy, Noted, SameSlots, Gathers}

-- ---- words of a buffer that grows

one_source : (buffer : Text) (p : ℕ) → source buffer buffer p ≡ buffer
unfolding source
one_source buffer p = by-if (λ (s : Text). s ≡ buffer) (λ e. refl) (λ e. refl)

module _ (buffer more : Text) {w : ℕ} (h : Points buffer buffer w) where
  below : start_of w + len_of w ≤ length buffer
  below = rw (one_source buffer (buffer_of w)) at h.inside

  name-part : take (len_of w) (drop (start_of w) (buffer ++ more)) ≡ take (len_of w) (drop (start_of w) buffer)
  name-part = sym (rw take-append_seam at (part-below (start_of w) (len_of w) (length buffer) (buffer ++ more) below))

  name-stays : text_of (buffer ++ more) (buffer ++ more) w ≡ text_of buffer buffer w
  unfolding text_of
  name-stays =
      rw (one_source (buffer ++ more) (buffer_of w), one_source buffer (buffer_of w)) name-part

  name-points : Points (buffer ++ more) (buffer ++ more) w
  name-points =
      record {
        inside = rw (one_source (buffer ++ more) (buffer_of w), length-append) (omega (arith, below));
        short = h.short;
        coded = coded_same buffer buffer (buffer ++ more) (buffer ++ more) w (sym name-stays) h.coded;
      }

module _ (buffer more : Text) {ws : List ℕ} (h : Holds buffer buffer ws) where
  names-point : Holds (buffer ++ more) (buffer ++ more) ws
  names-point = record { at = λ k l. name-points buffer more (h.at k l) }

  names_stay : slot_names (buffer ++ more) ws ≡ slot_names buffer ws
  names_stay = map_same (text_of (buffer ++ more) (buffer ++ more)) (text_of buffer buffer) ws (λ k l. name-stays buffer more (h.at k l))

-- ---- one token

-- what is addressed by a token and the one before it
module _ (a b : Token) where
  here_plain : ends_with a.text (bytes "&") ≡ false → addressed_here ((a, b) ∷ []) ≡ []
  unfolding addressed_here
  here_plain e = if-false _ _ (and_false _ e)

  here_other : ends_with a.text (bytes "&") ≡ true → starts_with b.text (bytes "var_") ≡ false → addressed_here ((a, b) ∷ []) ≡ []
  unfolding addressed_here
  here_other e f = if-false _ _ (and_true _ e ∙ f)

  here_slot : ends_with a.text (bytes "&") ≡ true → starts_with b.text (bytes "var_") ≡ true → addressed_here ((a, b) ∷ []) ≡ b.text ∷ []
  unfolding addressed_here
  here_slot e f = if-true _ _ (and_true _ e ∙ f)

  here_first : (ws : List (Token × Token)) → addressed_here ((a, b) ∷ ws) ≡ addressed_here ((a, b) ∷ []) ++ addressed_here ws
  unfolding addressed_here when◌then◌else◌
  here_first ws = go (ends_with a.text (bytes "&") and starts_with b.text (bytes "var_"))
    where
      go : (t : Bool) → (when t then b.text ∷ addressed_here ws else addressed_here ws) ≡ (when t then b.text ∷ [] else []) ++ addressed_here ws
      go true = refl
      go false = refl

module _ {g : SlotBuffer} (s : Slotting g) where
  pub noted_none : {names : List Text} (n k : ℕ) → names ≡ [] → Noted names n k g g
  noted_none n k e = record {
    slotting = s;
    names_are = rw e (sym (append-nil (names_now g)));
    text_most = omega arith;
    words_most = omega arith;
  }

  -- a name was put behind the others
  pub noted_one : (t : Text) → Roomy g (length t) 1 → {g' : SlotBuffer} → g'.text.now ≡ paste g.text.now g.used t (length t)
      → g'.words.now ≡ set g.words.now g.count (word 0 1 g.used (length t)) → g'.used ≡ g.used + length t → g'.count ≡ g.count + 1
      → Noted (t ∷ []) (length t) 1 g g'
  noted_one t r {g'} es ew eu ec =
      let buffer : Text = take g.used g.text.now in
      let v : ℕ = word 0 1 g.used (length t) in
      let size : length buffer ≡ g.used = length-take-le g.used g.text.now s.text_fits in
      let front : take (g.used + length t) g'.text.now ≡ buffer ++ t = take_behind g.text.now g.used t s.text_fits es in
      let now : take (g.count + 1) g'.words.now ≡ take g.count g.words.now ++ (v ∷ []) =
      rw (ew, add-one) (take-suc-set g.words.now g.count v (omega (arith, r.words_fit))) in
      let points : Points (buffer ++ t) (buffer ++ t) v = behind-points (buffer ++ t) buffer t 0 g.used (omega arith) size r.short in
      let name : text_of (buffer ++ t) (buffer ++ t) v ≡ t =
      ap (λ (x : Token). x.text) (behind-means (buffer ++ t) buffer t 0 g.used (omega arith) size r.short) in
      record {
        slotting = record {
          text_fits = rw (eu, es, length-paste g.text.now g.used t (length t) r.text_fits (le_refl _)) r.text_fits;
          words_fit = rw (ec, ew, length-set) (omega (arith, r.words_fit));
          holds = rw (eu, ec, front, now) (holds_snoc (names-point buffer t s.holds) points);
        };
        names_are =
            rw (eu, ec, front, now, map-append (text_of (buffer ++ t) (buffer ++ t)) (take g.count g.words.now) (v ∷ []))
            (λ i. names_stay buffer t s.holds i ++ (name i ∷ []));
        text_most = omega (arith, eu);
        words_most = omega (arith, ec);
      }

-- the same names in other words
noted_as : {names names' : List Text} {n n' k : ℕ} {g g' : SlotBuffer} → names ≡ names' → n ≡ n' → Noted names n k g g' → Noted names' n' k g g'
noted_as e f o = rw (e, f) at o

-- the text of the token `before` ends in `&` or not, that of the token w begins `var_` or not
module _ (tape area : Text) (before w : ℕ) {g : SlotBuffer}
    {a : Text} (ea : a ≡ text_of tape area before) {x : Bool} (ex : x ≡ ends_with a (bytes "&")) where
  pub noted-plain : Slotting g → x ≡ false → Noted (addressed_here ((token_of tape area before, token_of tape area w) ∷ [])) (len_of w) 1 g g
  noted-plain s f = noted_none s (len_of w) 1 (here_plain _ _ (rw ea at (sym ex ∙ f)))

  module _ (t : x ≡ true) {b : Text} (eb : b ≡ text_of tape area w) {y : Bool} (ey : y ≡ starts_with b (bytes "var_")) where
    pub noted_other : Slotting g → y ≡ false → Noted (addressed_here ((token_of tape area before, token_of tape area w) ∷ [])) (len_of w) 1 g g
    noted_other s f = noted_none s (len_of w) 1 (here_other _ _ (rw ea at (sym ex ∙ t)) (rw eb at (sym ey ∙ f)))

    pub noted-slot : y ≡ true → Points tape area w → {g' : SlotBuffer} → Noted (b ∷ []) (length b) 1 g g'
        → Noted (addressed_here ((token_of tape area before, token_of tape area w) ∷ [])) (len_of w) 1 g g'
    noted-slot f p o =
        let names : b ∷ [] ≡ addressed_here ((token_of tape area before, token_of tape area w) ∷ []) =
        ap (λ (x : Text). x ∷ []) eb ∙ sym (here_slot (token_of tape area before) (token_of tape area w) (rw ea at (sym ex ∙ t)) (rw eb at (sym ey ∙ f))) in
        noted_as names (ap length eb ∙ text_length p) o

pub slots_then : {a b c : SlotBuffer} → SameSlots a b → SameSlots b c → SameSlots a c
slots_then p q = record {
  text_is = q.text_is ∙ p.text_is;
  words_are = q.words_are ∙ p.words_are;
  text_length = q.text_length ∙ p.text_length;
  words_length = q.words_length ∙ p.words_length;
}

-- ---- one after the other

-- the names so far, with `rest`, are all, and so many bytes and words are left for them
pub record Noting (all : List Text) (bytes_most words_most : ℕ) (g : SlotBuffer) (rest : List Text) (n k : ℕ) : Type 0 where
  pub slotting : Slotting g
  pub names_are : names_now g ++ rest ≡ all
  pub bytes_left : g.used + n ≤ bytes_most
  pub words_left : g.count + k ≤ words_most

module _ {all : List Text} {bytes_most words_most : ℕ} {g : SlotBuffer} (names rest : List Text) (n₁ n k₁ k : ℕ)
    (s : Noting all bytes_most words_most g (names ++ rest) (n₁ + n) (k₁ + k)) where
  noting_next : {g' : SlotBuffer} → Noted names n₁ k₁ g g'
      → Noting all bytes_most words_most g' rest n k
  noting_next o = record {
    slotting = o.slotting;
    names_are = rw o.names_are (append_assoc (names_now g) names rest ∙ s.names_are);
    bytes_left = omega (arith, o.text_most, s.bytes_left);
    words_left = omega (arith, o.words_most, s.words_left);
  }

noting_room : {all : List Text} {bytes_most words_most : ℕ} {g : SlotBuffer} {rest : List Text} (n₁ n k₁ k : ℕ)
    → Noting all bytes_most words_most g rest (n₁ + n) (k₁ + k) → bytes_most ≤ length g.text.now → bytes_most < 65536 → words_most ≤ length g.words.now
    → Roomy g n₁ k₁
noting_room n₁ n k₁ k s a b c = record {
  text_fits = omega (arith, s.bytes_left);
  short = omega (arith, s.bytes_left);
  words_fit = omega (arith, s.words_left);
}

-- ---- the tokens of a line

windows-next : (ts : List Token) (k : ℕ) (d : Token) → k + 1 < length ts
    → windows (drop k ts) ≡ (get_or ts k d, get_or ts (k + 1) d) ∷ windows (drop (k + 1) ts)
windows-next ts k d h =
    let first = drop-cons ts k d (omega arith) in
    let second = drop-cons ts (suc k) d (omega arith) in
    rw (add-one k, first, second)

windows-over : (ts : List Token) → length ts ≤ 1 → windows ts ≡ []
windows-over [] h = refl
windows-over (a ∷ []) h = refl
windows-over (a ∷ b ∷ rest) h = absurd (omega arith)

-- before the pair of the tokens k and k + 1
abbrev pub LineNoting : Text → Text → List ℕ → SlotBuffer → SlotBuffer → ℕ → Type 0
LineNoting tape area line g₀ g k =
    Noting (names_now g₀ ++ addressed_here (windows (tokens_of tape area line))) (g₀.used + text_in (tokens_of tape area line)) (g₀.count + length line)
    g (addressed_here (windows (drop k (tokens_of tape area line)))) (text_in (drop (k + 1) (tokens_of tape area line))) (length (drop (k + 1) line))

-- what that pair addresses
abbrev here : Text → Text → List ℕ → ℕ → List Text
here tape area line k = addressed_here ((token_of tape area (get_or line k 0), token_of tape area (get_or line (k + 1) 0)) ∷ [])

module _ (tape area : Text) (line : List ℕ) (g₀ : SlotBuffer) (k : ℕ) {g : SlotBuffer}
    (s : LineNoting tape area line g₀ g k) where
  module _ (h : k + 1 < length line) (p : Points tape area (get_or line (k + 1) 0)) where
    turn : Noting (names_now g₀ ++ addressed_here (windows (tokens_of tape area line))) (g₀.used + text_in (tokens_of tape area line)) (g₀.count + length line)
        g (here tape area line k ++ addressed_here (windows (drop (k + 1) (tokens_of tape area line))))
        (len_of (get_or line (k + 1) 0) + text_in (drop (k + 1 + 1) (tokens_of tape area line))) (1 + length (drop (k + 1 + 1) line))
    turn =
        let many : length (tokens_of tape area line) ≡ length line = length-map line (token_of tape area) in
        let names : addressed_here (windows (drop k (tokens_of tape area line))) ≡ here tape area line k ++ addressed_here (windows (drop (k + 1) (tokens_of tape area line))) =
        ap addressed_here
        (windows-next (tokens_of tape area line) k (token_of tape area 0) (omega arith)
        ∙ rw (get_or-map (token_of tape area) line k 0, get_or-map (token_of tape area) line (k + 1) 0))
        ∙ here_first _ _ _ in
        let text : text_in (drop (k + 1) (tokens_of tape area line)) ≡ len_of (get_or line (k + 1) 0) + text_in (drop (k + 1 + 1) (tokens_of tape area line)) =
        rw (drop-cons (tokens_of tape area line) (k + 1) (token_of tape area 0) (omega arith), get_or-map (token_of tape area) line (k + 1) 0, add-one (k + 1))
        (omega (arith, text_length p)) in
        let count : length (drop (k + 1) line) ≡ 1 + length (drop (k + 1 + 1) line) = omega (arith, length-drop (k + 1) line, length-drop (k + 1 + 1) line) in
        record {
          slotting = s.slotting;
          names_are = ap (λ (r : List Text). names_now g ++ r) (sym names) ∙ s.names_are;
          bytes_left = omega (arith, s.bytes_left);
          words_left = omega (arith, s.words_left);
        }

    pub line_room : Roomy g₀ (text_in (tokens_of tape area line)) (length line) → SameSlots g₀ g → Roomy g (len_of (get_or line (k + 1) 0)) 1
    line_room r l =
        noting_room (len_of (get_or line (k + 1) 0)) _ 1 _ turn (omega (arith, r.text_fits, l.text_length)) r.short (omega (arith, r.words_fit, l.words_length))

    pub line_next : {g' : SlotBuffer} → Noted (here tape area line k) (len_of (get_or line (k + 1) 0)) 1 g g'
        → LineNoting tape area line g₀ g' (k + 1)
    line_next o = noting_next (here tape area line k) _ _ _ _ _ turn o

  pub line_ends : length line ≤ k + 1
      → Noted (addressed_here (windows (tokens_of tape area line))) (text_in (tokens_of tape area line)) (length line) g₀ g
  unfolding addressed_here
  line_ends h =
      let none : windows (drop k (tokens_of tape area line)) ≡ [] =
      windows-over (drop k (tokens_of tape area line)) (rw (length-drop, length-map) (omega arith)) in
      record {
        slotting = s.slotting;
        names_are = sym (append-nil (names_now g)) ∙ rw none at s.names_are;
        text_most = omega (arith, s.bytes_left);
        words_most = omega (arith, s.words_left);
      }

-- the pairs that are left, `rest` being what they are taken from
pub record Pairs (tape area : Text) (line : List ℕ) (g₀ g : SlotBuffer) (pairs : Windows ℕ) : Type 0 where
  pub twos : windows_size pairs ≡ 2
  pub inside : length (windows_rest pairs) ≤ length line
  pub rest_is : windows_rest pairs ≡ drop (length line - length (windows_rest pairs)) line
  pub noting : LineNoting tape area line g₀ g (length line - length (windows_rest pairs))

module _ {tape area : Text} {line : List ℕ} {g₀ g : SlotBuffer} {pairs : Windows ℕ} (s : Pairs tape area line g₀ g pairs) where
  abbrev place : ℕ
  place = length line - length (windows_rest pairs)

  module _ (next : Windows ℕ) (r : Option (Bor (List ℕ))) (pair : Bor (List ℕ)) (e : r ≡ Some pair) (steps : windows_steps pairs r next) where
    turn-of : (length (windows_rest next) + 1 ≡ length (windows_rest pairs))
        × (windows_rest next ≡ drop (length line - length (windows_rest next)) line)
        × (windows_size pairs ≤ length (windows_rest pairs))
        × ((k : ℕ) (d : ℕ) → k < windows_size pairs → get_or pair.now k d ≡ get_or line (place + k) d)
    turn-of = window_more line pairs next r pair e steps (omega (arith, s.twos)) s.inside s.rest_is

    pair_inside : place + 1 < length line
    pair_inside = let t = turn-of in omega (arith, t.2, s.twos, s.inside)

    first_is : get_or pair.now 0 0 ≡ get_or line place 0
    first_is = rw add-zero at (turn-of.3 0 0 (omega (arith, s.twos)))

    second_is : get_or pair.now 1 0 ≡ get_or line (place + 1) 0
    second_is = turn-of.3 1 0 (omega (arith, s.twos))

    -- what the call on the pair asks
    pub pair_first : Holds tape area line → Points tape area (get_or pair.now 0 0)
    pair_first h = rw first_is (h.at place (omega (arith, pair_inside)))

    pub pair_second : Holds tape area line → Points tape area (get_or pair.now 1 0)
    pair_second h = rw second_is (h.at (place + 1) pair_inside)

    pub pair_room : Holds tape area line → Roomy g₀ (text_in (tokens_of tape area line)) (length line)
        → SameSlots g₀ g → Roomy g (len_of (get_or pair.now 1 0)) 1
    pair_room h p l = rw second_is (line_room tape area line g₀ place s.noting pair_inside (h.at (place + 1) pair_inside) p l)

    -- and what it leaves
    pub pairs_next : Holds tape area line → {g' : SlotBuffer}
        → Noted (addressed_here ((token_of tape area (get_or pair.now 0 0), token_of tape area (get_or pair.now 1 0)) ∷ [])) (len_of (get_or pair.now 1 0)) 1
        g g'
        → Pairs tape area line g₀ g' next
    pairs_next h o =
        let t = turn-of in
        let further : length line - length (windows_rest next) ≡ place + 1 = omega (arith, t.0, s.inside) in
        record {
          twos = steps.0 ∙ s.twos;
          inside = omega (arith, t.0, s.inside);
          rest_is = t.1;
          noting =
              rw further
              (line_next tape area line g₀ place s.noting pair_inside (h.at (place + 1) pair_inside) (rw (first_is, second_is) at o));
        }

  pub pairs_end : (next : Windows ℕ) (r : Option (Bor (List ℕ))) → r ≡ None → windows_steps pairs r next
      → Noted (addressed_here (windows (tokens_of tape area line))) (text_in (tokens_of tape area line)) (length line) g₀ g
  pairs_end next r e steps =
      let last = (rw e at steps).1.0 in
      line_ends tape area line g₀ place s.noting (omega (arith, last, s.twos, s.inside))

-- ---- the lines of a listing

-- before the line k
abbrev pub LinesNoting : Listing → SlotBuffer → ℕ → Type 0
LinesNoting lines g k =
    Noting (addressed_in lines) (text lines) (token_count lines) g (addressed_in (drop k lines)) (text (drop k lines)) (token_count (drop k lines))

module _ (tape area : Text) (tokens lines : List ℕ) (k : ℕ) {g : SlotBuffer}
    (s : LinesNoting (bare_listing tape area tokens lines) g k) where
  module _ (h : k < length lines) {ws : List ℕ} (ew : ws ≡ part_of tokens (get_or lines k 0)) where
    abbrev rest : Listing
    rest = drop (k + 1) (bare_listing tape area tokens lines)

    split : drop k (bare_listing tape area tokens lines) ≡ bare_in tape area tokens (get_or lines k 0) ∷ rest
    split =
        drop-cons (bare_listing tape area tokens lines) k blank (rw length-map h) ∙ rw (bare_at tape area tokens [] lines k h, add-one k)

    turned : Noting (addressed_in (bare_listing tape area tokens lines)) (text (bare_listing tape area tokens lines)) (token_count (bare_listing tape area tokens lines))
        g (addressed_here (windows (tokens_of tape area ws)) ++ addressed_in rest) (text_in (tokens_of tape area ws) + text rest) (length ws + token_count rest)
    unfolding addressed_in
    turned = rw ew (rw (length-map (part_of tokens (get_or lines k 0)) (token_of tape area)) at (rw split at s))

    pub lines-room : {n m : ℕ} → text (bare_listing tape area tokens lines) ≤ n → text (bare_listing tape area tokens lines) < 65536
        → token_count (bare_listing tape area tokens lines) ≤ m → length g.text.now ≡ n → length g.words.now ≡ m
        → Roomy g (text_in (tokens_of tape area ws)) (length ws)
    lines-room a b c en em = noting_room (text_in (tokens_of tape area ws)) _ (length ws) _ turned (omega (arith, a, en)) b (omega (arith, c, em))

    pub lines_next : {g' : SlotBuffer}
        → Noted (addressed_here (windows (tokens_of tape area ws))) (text_in (tokens_of tape area ws)) (length ws) g g'
        → LinesNoting (bare_listing tape area tokens lines) g' (k + 1)
    lines_next o = noting_next (addressed_here (windows (tokens_of tape area ws))) _ _ _ _ _ turned o

  -- what stands in the slices behind the names is what the buffer said
  pub lines_end : length lines ≤ k → {slots : Text} {words : List ℕ} → slots ≡ g.text.now → words ≡ g.words.now
      → Gathers (addressed_in (bare_listing tape area tokens lines)) (take g.used slots) (take g.count words)
  unfolding addressed_in
  lines_end h es ew =
      let none : drop k (bare_listing tape area tokens lines) ≡ [] = drop_of_length-le (bare_listing tape area tokens lines) {i = k} (rw length-map h) in
      rw (es, ew) (record { holds = s.slotting.holds; names_are = sym (append-nil (names_now g)) ∙ rw none at s.names_are })
