-- Dead results, by the code's tests, and the cuts of a listing, line after line: those made so far, then those from line i on, are the cuts of the
-- whole. Assumes nothing.
use Prim.Native.Nat.{ℕ, ◌+◌, ◌-◌, ◌≤◌, ◌<◌}
use native.Mathlib.Omega.{arith}
use native.Mathlib.Numerals.{add-one}
use mathlib.Core.Path.{◌≡◌, refl, sym, ap, ◌∙◌}
use mathlib.Core.Bool.{Bool, true, false}
use mathlib.Core.List.{List, [], ◌∷◌, ◌++◌, append-nil}
use mathlib.Core.Option.{some}
use lib.Dec.{eqb}
use Rattle.std.specs.Option.{option_eq}
use lib.ListN.{length, take, drop, get_or, set, length-map, length-take, length-append}
use lib.Seq.{drop-drop, append_snoc, take_at}
use Rattle.reference.specs.Control.{◌and◌, ◌or◌, let_some◌else◌then◌}
use Rattle.reference.specs.Lists.{windows}
use Rattle.reference.specs.Text.{Text, bytes, ◌≟◌}
use Rattle.reference.specs.Listing.{Token, Listing, with_tokens}
use Rattle.reference.specs.Rules.{Rules, volatile}
use Rattle.reference.specs.Shapes.{calls_here, call_in}
use Rattle.reference.specs.Life.{Labels, dead_after}
use Rattle.reference.specs.Run.{labels_from, dead_result, last_of, drop_dead_results}
use Rattle.reference.proofs.Cases.{both, some-true, same_number, true-false}
use Rattle.laws.proofs.Scans.{and_here, and_second}
use Rattle.laws.proofs.Parts.{drop-take}
use Rattle.joining.specs.Bare.{bare_lines}
use Rattle.joining.specs.Places.{label_places, labels_at, Labelled}
use Rattle.joining.specs.Rounds.{cut_at, cuts}
use Rattle.joining.proofs.Bare.{labels_bare, dead_result-bare, cut-bare}
use Rattle.joining.proofs.Labels.{labels_begin, labelled_begin}
use Rattle.joining.proofs.Moving.{cut_labels, cut-labelled}
use Rattle.joining.proofs.Rounds.{cuts_begin, cuts_end, cuts-kept, cuts-cut}
use Rattle.lines.specs.Words.{text_of, token_of, tokens_of}
use Rattle.lines.specs.Lines.{Reading, numbered, first_of, count_of, indent_of, with_part, part_of, line_read, listing_read, bare_listing, Lined, Listed}
use Rattle.lines.specs.Fams.{fam_text}
use Rattle.lines.proofs.words.Each.{map-drop, map-set}
use Rattle.lines.proofs.words.Tokens.{holds-drop}
use Rattle.lines.proofs.words.Lines.{count-below, with_first, with_count, with_factless, with_read, no_facts, bare_at, bare-means, listed-set}
use Rattle.lines.proofs.fams.Families.{fam-row}
use Rattle.lines.proofs.shapes.Places.{found_is, found-not, find_at, get_at}
use Rattle.life.specs.Labels.{Gathered}
use Rattle.cuts.specs.Cuts.{keeps_result, Cuttable, labels_now, dead_at, Dropped, Cut}
use Rattle.std.specs.Prelude as std
use Rattle.std.specs.Prelude.{Some, None}
use Rattle.reference.specs.Options.{option_of}

-- ---- a line that keeps a result

-- a call mark at token 2 has tokens before it
called-long : (ts : List Token) → call_in ts ≡ some 2 → 2 < length ts
unfolding call_in
called-long ts e = long ts (find_at calls_here (windows ts) 2 (blank-token, blank-token) e).0
  where
    blank-token : Token
    blank-token = record { kind = 0; text = [] }

    long : (ts : List Token) → 2 < length (windows ts) → 2 < length ts
    long [] h = absurd (omega arith)
    long (a ∷ []) h = absurd (omega arith)
    long (a ∷ b ∷ []) h = absurd (omega arith)
    long (a ∷ b ∷ c ∷ rest) h = omega arith

module _ (tape area : Text) (ws : List ℕ) where
  -- what it says of the first two tokens
  abbrev to_rax : Bool
  to_rax =
      ((text_of tape area (get_or ws 0 0) ≟ bytes "rax") or (text_of tape area (get_or ws 0 0) ≟ bytes "eax"))
      and (text_of tape area (get_or ws 1 0) ≟ bytes " = ")

  module _ (r : std.Option ℕ) (h : option_of r ≡ call_in (tokens_of tape area ws)) where
    pub called_inside : r ≡ Some 2 → 2 < length ws
    called_inside e = rw (length-map ws (token_of tape area)) at (called-long (tokens_of tape area ws) (found_is h e))

    keeps-at : r ≡ Some 2 → keeps_result (tokens_of tape area ws) ≡ to_rax
    unfolding keeps_result let_some◌else◌then◌ ◌and◌
    keeps-at e =
        let first = get_at (token_of tape area) ws 0 (omega (arith, called_inside e)) in
        let second = get_at (token_of tape area) ws 1 (omega (arith, called_inside e)) in
        rw (found_is h e, first, second)

    keeps_none : r ≡ None → keeps_result (tokens_of tape area ws) ≡ false
    unfolding keeps_result let_some◌else◌then◌ ◌and◌
    keeps_none e = rw (found-not h e)

    keeps_other : {k : ℕ} → r ≡ Some k → eqb k 2 ≡ false → keeps_result (tokens_of tape area ws) ≡ false
    unfolding keeps_result let_some◌else◌then◌ ◌and◌
    keeps_other e n = rw (found_is h e, n)

    pub keeps_is : keeps_result (tokens_of tape area ws) ≡ (option_eq eqb r (Some 2) and to_rax)
    unfolding ◌and◌
    keeps_is = by r refl
      where
        at : {k : ℕ} → r ≡ Some k → (b : Bool) → eqb k 2 ≡ b → keeps_result (tokens_of tape area ws) ≡ (option_eq eqb r (Some 2) and to_rax)
        at e true q = (let two : r ≡ Some 2 = e ∙ ap Some (same_number q) in keeps-at two ∙ rw two)
        at e false q = keeps_other e q ∙ rw (e, q)

        by : (o : std.Option ℕ) → o ≡ r → keeps_result (tokens_of tape area ws) ≡ (option_eq eqb r (Some 2) and to_rax)
        by None e = keeps_none (sym e) ∙ rw (← e)
        by (Some k) e = at (sym e) (eqb k 2) refl

-- ---- a result that is never read

regroup : (a b c d : Bool) → (a and b and c and d) ≡ ((a and b and c) and d)
unfolding ◌and◌
regroup true true c d = refl
regroup true false c d = refl
regroup false b c d = refl

module _ (rules : Rules) (tape area : Text) (tokens lines labels : List ℕ) (i : ℕ) (h : i < length lines) where
  dead_is : dead_at rules tape area tokens lines labels i
      ≡ (keeps_result (tokens_of tape area (part_of tokens (get_or lines i 0)))
      and dead_after (bare_listing tape area tokens lines) i (bytes "rax") (indent_of (get_or lines i 0)) (labels_now tape area tokens lines labels) i (volatile rules))
  unfolding dead_result keeps_result
  dead_is = rw (bare_at tape area tokens [] lines i h) (regroup _ _ _ _)

  module _ {ws : List ℕ} (ew : ws ≡ part_of tokens (get_or lines i 0)) {x : Bool} (ex : x ≡ keeps_result (tokens_of tape area ws)) where
    pub dead_not : x ≡ false → x ≡ dead_at rules tape area tokens lines labels i
    dead_not f = f ∙ and_here _ (rw ew at ex) f ∙ sym dead_is

    pub dead_then : x ≡ true → {n : ℕ} → n ≡ indent_of (get_or lines i 0) → {y : Bool}
        → y ≡ dead_after (bare_listing tape area tokens lines) i (fam_text tape area 0) n (labels_now tape area tokens lines labels) i (volatile rules)
        → y ≡ dead_at rules tape area tokens lines labels i
    dead_then f en ey = and_second (rw ew at ex) f (rw (fam-row tape area {f = 0} (omega arith), en) at ey) ∙ sym dead_is

  -- ---- one cut

  dead-long : dead_at rules tape area tokens lines labels i ≡ true → 2 < count_of (get_or lines i 0)
  unfolding keeps_result
  dead-long e =
      let k = some-true (both (both (sym dead_is ∙ e)).0).0 in
      let long = called-long (tokens_of tape area (part_of tokens (get_or lines i 0))) (k.1 ∙ ap some (same_number k.2)) in
      omega (
        arith,
        long,
        length-map (part_of tokens (get_or lines i 0)) (token_of tape area),
        length-take (count_of (get_or lines i 0)) (drop (first_of (get_or lines i 0)) tokens),
      )

-- the word of a line without its first two tokens
abbrev cut_word : ℕ → ℕ
cut_word l = with_part l (first_of l + 2) (count_of l - 2)

pub cut-fewer : (l : ℕ) → count_of l - 2 < 2048
cut-fewer l = omega (arith, count-below l)

-- it is a part of the same tokens
module _ (tape area : Text) (tokens : List ℕ) (l : ℕ) (h : Lined tape area tokens l) (few : 2 ≤ count_of l) (low : first_of l + 2 < 65536) where
  part : take (count_of l - 2) (drop (first_of l + 2) tokens) ≡ drop 2 (part_of tokens l)
  part = rw (drop-take, drop-drop)

  cut_lined : Lined tape area tokens (cut_word l)
  cut_lined =
      let first = with_first l (first_of l + 2) (count_of l - 2) low (cut-fewer l) in
      let count = with_count l (first_of l + 2) (count_of l - 2) low (cut-fewer l) in
      record {
        inside = rw (first, count) (omega (arith, h.inside));
        holds = rw (first, count, part) (holds-drop h.holds 2);
        facts = no_facts _ (with_factless l (first_of l + 2) (count_of l - 2) low (cut-fewer l));
      }

  cut-means : (addresses : Reading)
      → line_read tape area tokens addresses (cut_word l)
      ≡ with_tokens (drop 2 (line_read tape area tokens addresses l).tokens) (line_read tape area tokens addresses l)
  cut-means addresses =
      with_read l (first_of l + 2) (count_of l - 2) low (cut-fewer l) tape area tokens addresses
      ∙ ap (λ (ts : List Token). with_tokens ts (line_read tape area tokens addresses l))
      (ap (tokens_of tape area) part ∙ map-drop (token_of tape area) 2 (part_of tokens l))

module _ {tape area : Text} {tokens lines labels : List ℕ} (c : Cuttable tape area tokens lines labels) (rules : Rules) (i : ℕ) (h : i < length lines)
    {x : Bool} (ex : x ≡ dead_at rules tape area tokens lines labels i) where
  module _ (t : x ≡ true) where
    long : 2 < count_of (get_or lines i 0)
    long = dead-long rules tape area tokens lines labels i h (sym ex ∙ t)

    -- what the new word asks
    pub cut-count : 2 ≤ count_of (get_or lines i 0)
    cut-count = omega (arith, long)

    pub cut-first : first_of (get_or lines i 0) + 2 < 65536
    cut-first = omega (arith, long, (c.listed.at i h).inside, c.short)

    pub dropped-cut : {v : ℕ} → v ≡ cut_word (get_or lines i 0) → Dropped rules tape area tokens lines labels i (set lines i v) true
    dropped-cut {v} ev =
        let l = c.listed.at i h in
        record {
          told = sym t ∙ ex;
          kept = λ e. absurd (true-false (sym ex ∙ t) e);
          cut = λ e. (
            listed-set c.listed i (rw ev (cut_lined tape area tokens (get_or lines i 0) l cut-count cut-first)),
            λ addresses.
                map-set (line_read tape area tokens addresses) _ i lines v
                (λ _. ap (line_read tape area tokens addresses) ev ∙ cut-means tape area tokens (get_or lines i 0) l cut-count cut-first addresses),
          );
        }

-- the lines without addresses, of a listing that is cut
pub bare_cut : (tape area : Text) (tokens lines : List ℕ) (i : ℕ) (lines' : List ℕ)
    → listing_read tape area tokens numbered lines' ≡ cut_at i (listing_read tape area tokens numbered lines)
    → bare_listing tape area tokens lines' ≡ cut_at i (bare_listing tape area tokens lines)
bare_cut tape area tokens lines i lines' e =
    bare-means tape area tokens numbered lines' ∙ ap bare_lines e ∙ sym (cut-bare i (listing_read tape area tokens numbered lines))
    ∙ ap (cut_at i) (sym (bare-means tape area tokens numbered lines))

-- ---- all cuts

pub last_append : (l : Listing) (xs ys : List Listing) → last_of l (xs ++ ys) ≡ last_of (last_of l xs) ys
unfolding last_of
last_append l [] ys = refl
last_append l (x ∷ xs) ys = last_append x xs ys

-- Of the cuts of `start` those in `done` were made, n of them, and left `lines`: the others are those of `lines` from line i on.
pub record Upto (rules : Rules) (labels : Labels) (start : Listing) (i n : ℕ) (lines : Listing) : Type 0 where
  pub done : List Listing
  pub made : cuts rules labels 0 start ≡ done ++ cuts rules labels i lines
  pub counted : length done ≡ n
  pub left : last_of start done ≡ lines

module _ (rules : Rules) (labels : Labels) where
  upto_begin : (start : Listing) → Upto rules labels start 0 0 start
  unfolding last_of
  upto_begin start = record { done = []; made = refl; counted = refl; left = refl }

  module _ {start : Listing} {i n : ℕ} {lines : Listing} (u : Upto rules labels start i n lines) where
    upto-kept : i < length lines → dead_result rules labels lines i ≡ false → Upto rules labels start (i + 1) n lines
    upto-kept h e = record {
      done = u.done;
      made = rw (add-one i) (u.made ∙ ap (λ (r : List Listing). u.done ++ r) (cuts-kept rules labels i lines h e));
      counted = u.counted;
      left = u.left;
    }

    upto-cut : i < length lines → dead_result rules labels lines i ≡ true → Upto rules labels start (i + 1) (n + 1) (cut_at i lines)
    unfolding last_of
    upto-cut h e = record {
      done = u.done ++ (cut_at i lines ∷ []);
      made =
          rw (add-one i)
          (u.made ∙ ap (λ (r : List Listing). u.done ++ r) (cuts-cut rules labels i lines h e) ∙ sym (append_snoc u.done (cut_at i lines) _));
      counted = length-append u.done _ ∙ ap (λ (m : ℕ). m + 1) u.counted;
      left = last_append start u.done _;
    }

    upto_end : length lines ≤ i → (lines ≡ last_of start (cuts rules labels 0 start)) × (n ≡ length (cuts rules labels 0 start))
    upto_end h =
        let all : cuts rules labels 0 start ≡ u.done =
        u.made ∙ ap (λ (r : List Listing). u.done ++ r) (cuts_end rules labels i lines h) ∙ append-nil u.done in
        rw all (sym u.left, sym u.counted)

-- ---- in the tables

-- the cuts of the lines before line i were made, n of them, and what was `start` is now `lines`
pub record Cutting (rules : Rules) (tape area : Text) (tokens start labels lines : List ℕ) (n i : ℕ) : Type 0 where
  pub listed : Listed tape area tokens lines
  pub labelled : Labelled (bare_listing tape area tokens lines) labels
  pub labels_same : labels_now tape area tokens lines labels ≡ labels_now tape area tokens start labels
  pub few : n ≤ i
  pub upto : (addresses : Reading)
      → Upto rules (labels_now tape area tokens start labels) (listing_read tape area tokens addresses start) i n (listing_read tape area tokens addresses lines)

module _ {rules : Rules} {tape area : Text} {tokens start labels : List ℕ} where
  pub cutting_begin : Cuttable tape area tokens start labels → Cutting rules tape area tokens start labels start 0 0
  cutting_begin c = record {
    listed = c.listed;
    labelled = c.labelled;
    labels_same = refl;
    few = omega arith;
    upto = λ addresses. upto_begin rules _ _;
  }

  module _ {lines : List ℕ} {n i : ℕ} (s : Cutting rules tape area tokens start labels lines n i) where
    module _ (h : i < length lines) {lines' : List ℕ} {r : Bool} (d : Dropped rules tape area tokens lines labels i lines' r) where
      -- the same of the listing with its addresses
      dead_same : {b : Bool} (addresses : Reading) → dead_at rules tape area tokens lines labels i ≡ b
          → dead_result rules (labels_now tape area tokens start labels) (listing_read tape area tokens addresses lines) i ≡ b
      dead_same addresses e =
          sym (dead_result-bare rules _ (listing_read tape area tokens addresses lines) i)
          ∙ rw (← bare-means tape area tokens addresses lines, ← s.labels_same) e

      inside : (addresses : Reading) → i < length (listing_read tape area tokens addresses lines)
      inside addresses = rw length-map h

      pub cutting_kept : r ≡ false → Cutting rules tape area tokens start labels lines' n (i + 1)
      cutting_kept f =
          let e = sym d.told ∙ f in
          rw (d.kept e)
          (record {
            listed = s.listed;
            labelled = s.labelled;
            labels_same = s.labels_same;
            few = omega (arith, s.few);
            upto = λ addresses. upto-kept rules _ (s.upto addresses) (inside addresses) (dead_same addresses e);
          })

      pub cutting_cut : r ≡ true → Cutting rules tape area tokens start labels lines' (n + 1) (i + 1)
      cutting_cut f =
          let e = sym d.told ∙ f in
          let k = d.cut e in
          let cut = bare_cut tape area tokens lines i lines' (k.1 numbered) in
          record {
            listed = k.0;
            labelled = rw cut (cut-labelled rules (labels_now tape area tokens lines labels) (bare_listing tape area tokens lines) i e labels s.labelled);
            labels_same =
                ap (λ (ls : Listing). labels_at ls labels) cut
                ∙ cut_labels rules (labels_now tape area tokens lines labels) (bare_listing tape area tokens lines) i e labels s.labelled ∙ s.labels_same;
            few = omega (arith, s.few);
            upto = λ addresses. rw (k.1 addresses) (upto-cut rules _ (s.upto addresses) (inside addresses) (dead_same addresses e));
          }

    pub cutting_end : length lines ≤ i → Cut (cuts rules (labels_now tape area tokens start labels) 0) tape area tokens start lines n
    cutting_end h =
        let past : (addresses : Reading) → length (listing_read tape area tokens addresses lines) ≤ i = (λ addresses. rw length-map h) in
        record {
          listed = s.listed;
          finished = λ addresses. (upto_end rules _ (s.upto addresses) (past addresses)).0;
          count = λ addresses. (upto_end rules _ (s.upto addresses) (past addresses)).1;
        }

-- ---- the labels, gathered before the cuts

module _ (tape area : Text) (tokens lines : List ℕ) {before after : List ℕ} {n : ℕ}
    (g : Gathered (label_places 0 (bare_listing tape area tokens lines)) before after n) where
  gathered_front : take n after ≡ label_places 0 (bare_listing tape area tokens lines)
  gathered_front = rw g.is (take_at _ _ n (sym g.size))

  pub gathered_labelled : Labelled (bare_listing tape area tokens lines) (take n after)
  gathered_labelled = rw gathered_front (labelled_begin (bare_listing tape area tokens lines))

  pub gathered_cuttable : Listed tape area tokens lines → length lines ≤ 256 → length tokens ≤ 65536 → Cuttable tape area tokens lines (take n after)
  gathered_cuttable h f k = record { listed = h; few = f; short = k; labelled = gathered_labelled }

  pub gathered_labels : (addresses : Reading) → labels_from 0 (listing_read tape area tokens addresses lines) ≡ labels_now tape area tokens lines (take n after)
  gathered_labels addresses =
      sym (labels_bare 0 (listing_read tape area tokens addresses lines))
      ∙ rw (← bare-means tape area tokens addresses lines, gathered_front) (labels_begin (bare_listing tape area tokens lines))

  pub cut-whole : (rules : Rules) {lines' : List ℕ} {r : ℕ} → Cut (cuts rules (labels_now tape area tokens lines (take n after)) 0) tape area tokens lines lines' r
      → Cut (drop_dead_results rules) tape area tokens lines lines' r
  cut-whole rules c =
      let all : (addresses : Reading) → drop_dead_results rules (listing_read tape area tokens addresses lines)
      ≡ cuts rules (labels_now tape area tokens lines (take n after)) 0 (listing_read tape area tokens addresses lines) =
      (λ addresses. cuts_begin rules _ ∙ ap (λ (ls : Labels). cuts rules ls 0 (listing_read tape area tokens addresses lines)) (gathered_labels addresses)) in
      record {
        listed = c.listed;
        finished = λ addresses. rw (all addresses) (c.finished addresses);
        count = λ addresses. rw (all addresses) (c.count addresses);
      }
