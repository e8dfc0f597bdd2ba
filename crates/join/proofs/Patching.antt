-- The loop that writes the changed lines behind the used marks: where it begins, a line that stays, a line written, and the end. What is read is
-- the old set with what was written behind its marks. Assumes nothing.
use Prim.Native.Nat.{ℕ, suc, ◌+◌, ◌-◌, ◌*◌, ◌≤◌, ◌<◌}
use native.Mathlib.Omega.{arith}
use native.Mathlib.Nat.{le_refl, zero-add}
use native.Mathlib.Numerals.{add-one}
use mathlib.Core.Path.{◌≡◌, refl, sym, ap, ◌∙◌}
use mathlib.Core.Bool.{Bool, false}
use mathlib.Core.List.{List, [], ◌∷◌, ◌++◌, append-nil, append_assoc}
use lib.ListN.{length, get_or, set, take, drop, length-append, length-take, length-map, length-set, take-append-drop}
use lib.Seq.{slice, slice_empty, slice-cons, take-suc, take_all, drop-cons, drop-drop, drop-append-le, drop-append-add, drop-set-lt, append_snoc, set_at, length-take-le, length-slice, map-set}
use Rattle.reference.specs.Lists.{remove}
use Rattle.reference.specs.Text.{Text}
use Rattle.reference.specs.Listing.{Token, Line, Listing, blank}
use Rattle.reference.specs.Rules.{Rules, volatile}
use Rattle.reference.specs.Claim.{sum}
use Rattle.laws.proofs.Parts.{drop-take}
use Rattle.joining.specs.Limits.{room}
use Rattle.joining.specs.Plan.{Plan, map_from, changes, acted_line, act}
use Rattle.joining.proofs.Acting.{early, line_kept}
use Rattle.joining.proofs.Indexed.{length-map-from, map-from_append, map-from_id}
use Rattle.lines.specs.Lines.{Reading, line_read, bare_in, listing_read, Lined, Listed}
use Rattle.lines.proofs.words.Lines.{listing_at, listed-set, listed-grows, listing-grows, listed-remove}
use Rattle.plan.specs.declared.plans.Join.{Join}
use Rattle.lines.specs.declared.texts.Size.{Size}
use Rattle.build.proofs.Growing.{grown}
use Rattle.build.proofs.Listing.{lined_elsewhere, line_elsewhere}
use Rattle.join.specs.Building.{new_tokens, Placeable, Placed, plan_of, Plannable}
use Rattle.join.specs.Patching.{line_need, needs, need_from, Spare, mixed, changed_upto, Patching, Patched}
use Rattle.plan.proofs.Changed.{past_last}
use Rattle.join.proofs.Rows.{last-inside, placeable_in}
use Rattle.join.proofs.Needing.{line_room, room-count}
use Rattle.join.proofs.Building.{rest_at, rest-next}
use Rattle.join.proofs.Removing.{map-remove, remove-used}

-- ---- lines changed one after the other

module _ (f : ℕ → Line → Line) (ls : Listing) (k : ℕ) where
  changed-next : k < length ls → changed_upto f ls (k + 1) ≡ map_from f 0 (take k ls) ++ f k (get_or ls k blank) ∷ drop (suc k) ls
  changed-next h =
      let size : length (take k ls) ≡ k = length-take-le k ls (omega arith) in
      let front : map_from f 0 (take (suc k) ls) ≡ map_from f 0 (take k ls) ++ (f k (get_or ls k blank) ∷ []) =
      rw (take-suc ls k blank h) (map-from_append f 0 (take k ls) (get_or ls k blank ∷ []) ∙ rw (size, zero-add k)) in
      rw (add-one k, front) (append_snoc (map_from f 0 (take k ls)) (f k (get_or ls k blank)) (drop (suc k) ls))

  changed-set : k < length ls → changed_upto f ls (k + 1) ≡ set (changed_upto f ls k) k (f k (get_or ls k blank))
  changed-set h =
      let size : length (map_from f 0 (take k ls)) ≡ k = length-map-from f 0 (take k ls) ∙ length-take-le k ls (omega arith) in
      changed-next h
      ∙ sym (rw (drop-cons ls k blank) (set_at (map_from f 0 (take k ls)) (get_or ls k blank) (drop (suc k) ls) (f k (get_or ls k blank)) k size))

  changed_same : k < length ls → f k (get_or ls k blank) ≡ get_or ls k blank → changed_upto f ls (k + 1) ≡ changed_upto f ls k
  changed_same h e = changed-next h ∙ rw (e, drop-cons ls k blank)

  changed_none : ((m : ℕ) (l : Line) → m < k → f m l ≡ l) → changed_upto f ls k ≡ ls
  changed_none h =
      ap (λ (r : Listing). r ++ drop k ls) (map-from_id f 0 (take k ls) (λ m x a b. h m x (omega (arith, length-take k ls)))) ∙ take-append-drop k ls

  changed-all : k ≤ length ls → ((m : ℕ) (l : Line) → k ≤ m → f m l ≡ l) → changed_upto f ls k ≡ map_from f 0 ls
  changed-all b h =
      let size : length (take k ls) ≡ k = length-take-le k ls b in
      let rest : map_from f (0 + length (take k ls)) (drop k ls) ≡ drop k ls =
      rw (size, zero-add k) (map-from_id f k (drop k ls) (λ m x lo hi. h m x lo)) in
      sym (ap (map_from f 0) (sym (take-append-drop k ls)) ∙ map-from_append f 0 (take k ls) (drop k ls) ∙ ap (λ (r : Listing). map_from f 0 (take k ls) ++ r) rest)

-- ---- a list, and what another has behind it

pub mixed_none : (xs ys : List ℕ) (n : ℕ) → mixed xs n n ys ≡ xs
mixed_none xs ys n = rw (slice_empty n ys) (append-nil xs)

-- what stands behind xs, which ends at m: before up to n, now up to t
record Mixes (xs before ys : List ℕ) (m n t : ℕ) : Type 0 where
  long : t ≤ length (mixed xs m t ys)
  whole : take t (mixed xs m t ys) ≡ mixed xs m t ys
  part : slice n t (mixed xs m t ys) ≡ slice n t ys
  more : mixed xs m t ys ≡ mixed xs m n before ++ slice n t ys

mixes : (xs before ys : List ℕ) (m n t : ℕ) → length xs ≡ m → m ≤ n → n ≤ t → t ≤ length ys → take n ys ≡ take n before → Mixes xs before ys m n t
mixes xs before ys m n t e mn nt h same =
    let size : length (mixed xs m t ys) ≡ t = length-append xs (slice m t ys) ∙ rw (e, length-slice m t ys h) (omega arith) in
    let all : take t (mixed xs m t ys) ≡ mixed xs m t ys = take_all t (mixed xs m t ys) (rw size (le_refl t)) in
    let q : n ≡ length xs + (n - m) = omega arith in
    let r : m + (n - m) ≡ n = omega arith in
    let b : length (take n before) ≡ n = ap length (sym same) ∙ length-take-le n ys (omega arith) in
    let next : slice m t ys ≡ drop m (take n before) ++ slice n t ys =
    ap (drop m) (grown before ys n t nt same)
    ∙ drop-append-le m (take n before) (take (t - n) (drop n ys)) (rw b mn)
    ∙ ap (λ (r : List ℕ). drop m (take n before) ++ r) (sym (drop-take n t ys)) in
    record {
      long = rw size (le_refl t);
      whole = all;
      part =
          ap (drop n) all
          ∙ ap (λ (i : ℕ). drop i (mixed xs m t ys)) q
          ∙ drop-append-add xs (slice m t ys) (n - m)
          ∙ drop-drop (n - m) m (take t ys)
          ∙ ap (λ (i : ℕ). drop i (take t ys)) r;
      more = ap (λ (r : List ℕ). xs ++ r) next ∙ sym (append_assoc xs (drop m (take n before)) (slice n t ys));
    }

-- ---- the loop

module _ {rules : Rules} {tape old : Text} {words lines : List ℕ} {j : Join} (h : Plannable rules tape old words lines j) (from : Size)
    (eo : length old ≡ from.text) (ew : length words ≡ from.tokens) where
  abbrev plan : Plan
  plan = plan_of tape old words lines j

  abbrev by_plan : ℕ → Line → Line
  by_plan = acted_line rules j.line plan

  pub patch_begun : (area : Text) (tokens : List ℕ) → Patching rules tape old words lines j from (j.line + 1) area tokens lines from
  patch_begun area tokens = record {
    as_many = refl;
    rest_is = refl;
    text_from = le_refl _;
    words_from = le_refl _;
    listed = rw (mixed_none old area from.text, mixed_none words tokens from.tokens) h.listed;
    means = λ addresses. rw (mixed_none old area from.text, mixed_none words tokens from.tokens)
        (sym (changed_none by_plan (listing_read tape old words addresses lines) (j.line + 1) (λ m l b. early (volatile rules) j.line plan _ m l (omega arith))));
    text_left = le_refl _;
    words_left = le_refl _;
  }

  module _ {k : ℕ} {area : Text} {tokens lines' : List ℕ} {size : Size} (u : Patching rules tape old words lines j from k area tokens lines' size) where
    pub same_word : get_or lines' k 0 ≡ get_or lines k 0
    same_word = rest_at k lines' lines u.rest_is

    module _ (hl : k ≤ j.last) where
      pub next-inside : k < length lines
      next-inside = omega (arith, last-inside h)

      need_step : need_from words lines j k ≡ line_need words (get_or lines j.line 0) (get_or lines k 0) + need_from words lines j (k + 1)
      unfolding needs
      need_step = rw (slice-cons k (j.last + 1) lines 0 (omega arith) (omega (arith, last-inside h)), add-one k)

      old_line : (addresses : Reading) → get_or (listing_read tape old words addresses lines) k blank ≡ line_read tape old words addresses (get_or lines' k 0)
      old_line addresses = listing_at tape old words addresses lines k next-inside ∙ rw same_word

      -- a line that stays
      pub patch_kept : {r : Bool} → r ≡ changes (volatile rules) j.line plan k (bare_in tape old words (get_or lines' k 0)) → r ≡ false
          → Patching rules tape old words lines j from (k + 1) area tokens lines' size
      unfolding changes
      patch_kept is left = record {
        as_many = u.as_many;
        rest_is = rest-next k lines' lines u.rest_is;
        text_from = u.text_from;
        words_from = u.words_from;
        listed = u.listed;
        means = λ addresses. u.means addresses
            ∙ sym (changed_same by_plan (listing_read tape old words addresses lines) k (rw length-map next-inside)
            (rw (old_line addresses) (line_kept (volatile rules) j.line plan _ k (line_read tape old words addresses (get_or lines' k 0)) (sym is ∙ left))));
        text_left = omega (arith, u.text_left, need_step);
        words_left = omega (arith, u.words_left, need_step);
      }

      -- a line written
      module _ (n : k ≡ j.line → ⊥) {source : ℕ} (es : source ≡ get_or lines j.line 0) where
        abbrev row : List Token
        row = new_tokens rules tape old words (get_or lines j.line 0) j k (get_or lines k 0)

        row_room : sum room row ≤ line_need words (get_or lines j.line 0) (get_or lines k 0)
        row_room = line_room h k next-inside

        pub placeable_now : Spare area tokens from (need_from words lines j (j.line + 1)) → Placeable rules tape old words source j k (get_or lines' k 0) area tokens size
        placeable_now s =
            placeable_in h k next-inside n
            (record {
              text_fits = omega (arith, row_room, u.text_left, need_step, s.text_fits);
              short = omega (arith, row_room, u.text_left, need_step, s.text_short);
              words_fit = omega (arith, row_room, room-count row, u.words_left, need_step, s.words_fit);
            })
            (omega (arith, u.words_left, s.words_short)) es same_word

        module _ {area' : Text} {tokens' : List ℕ} {at' : Size} {v : ℕ} (a : Placed rules tape old words source j k (get_or lines' k 0) area tokens size area' tokens' at' v)
            (s : Spare area' tokens' from (need_from words lines j (j.line + 1))) where
          row_text : at'.text ≤ size.text + sum room row
          row_text = (rw (es, same_word) at a).text_most

          row_words : at'.tokens ≤ size.tokens + length row
          row_words = (rw (es, same_word) at a).words_most

          text_now : at'.text + need_from words lines j (k + 1) ≤ from.text + need_from words lines j (j.line + 1)
          text_now = omega (arith, row_text, row_room, u.text_left, need_step)

          words-now : 24 * at'.tokens + need_from words lines j (k + 1) ≤ 24 * from.tokens + need_from words lines j (j.line + 1)
          words-now = omega (arith, row_words, row_room, room-count row, u.words_left, need_step)

          of_text : Mixes old area area' from.text size.text at'.text
          of_text = mixes old area area' from.text size.text at'.text eo u.text_from a.text_grows (omega (arith, text_now, s.text_fits)) a.text_below

          of_words : Mixes words tokens tokens' from.tokens size.tokens at'.tokens
          of_words = mixes words tokens tokens' from.tokens size.tokens at'.tokens ew u.words_from (omega (arith, a.end_is)) (omega (arith, words-now, s.words_fit)) a.words_below

          abbrev new_text : Text
          new_text = mixed old from.text at'.text area'

          abbrev new_words : List ℕ
          new_words = mixed words from.tokens at'.tokens tokens'

          lined-now : Lined tape new_text new_words v
          lined-now = rw (of_text.whole, of_words.whole) at (lined_elsewhere a new_text new_words of_text.part of_words.part of_text.long of_words.long)

          line_now : (addresses : Reading) → line_read tape new_text new_words addresses v ≡ by_plan k (get_or (listing_read tape old words addresses lines) k blank)
          line_now addresses =
              (rw (of_text.whole, of_words.whole) at (line_elsewhere a new_text new_words of_text.part of_words.part of_text.long of_words.long addresses))
              ∙ rw (old_line addresses, es)

          listed-now : Listed tape new_text new_words lines'
          listed-now = rw (of_text.more, of_words.more) (listed-grows _ _ u.listed)

          listing_now : (addresses : Reading) → listing_read tape new_text new_words addresses lines' ≡ changed_upto by_plan (listing_read tape old words addresses lines) k
          listing_now addresses = rw (of_text.more, of_words.more) (listing-grows _ _ u.listed addresses) ∙ u.means addresses

          pub patch_placed : Patching rules tape old words lines j from (k + 1) area' tokens' (set lines' k v) at'
          patch_placed = record {
            as_many = length-set lines' k v ∙ u.as_many;
            rest_is = drop-set-lt (k + 1) lines' k v (omega arith) ∙ rest-next k lines' lines u.rest_is;
            text_from = omega (arith, u.text_from, a.text_grows);
            words_from = omega (arith, u.words_from, a.end_is);
            listed = listed-set listed-now k lined-now;
            means = λ addresses.
                map-set (line_read tape new_text new_words addresses) lines' k v
                ∙ rw (listing_now addresses, line_now addresses)
                (sym (changed-set by_plan (listing_read tape old words addresses lines) k (rw length-map next-inside)));
            text_left = text_now;
            words_left = words-now;
          }

    -- all lines, and the line that was joined is gone
    pub patched : j.line < k → j.last < k → k ≤ length lines → {lines'' : List ℕ} → length lines'' ≡ length lines' → lines'' ≡ remove j.line lines' ++ drop (length lines' - 1) lines'
        → Patched rules tape old words lines j from area tokens lines'' (record { lines = length lines'' - 1; tokens = size.tokens; text = size.text })
    unfolding act
    patched hi hl b {lines''} el er =
        let e : take (length lines' - 1) lines'' ≡ remove j.line lines' = remove-used lines' j.line (omega (arith, h.inside, u.as_many)) er in
        rw el (record {
          lines_fit = omega arith;
          text_from = u.text_from;
          words_from = u.words_from;
          text_few = omega (arith, u.text_left);
          words_few = omega (arith, u.words_left);
          listed = rw e (listed-remove u.listed j.line);
          means = λ addresses. rw e (
              map-remove (line_read tape _ _ addresses) j.line lines'
              ∙ ap (remove j.line) (u.means addresses
              ∙ changed-all by_plan (listing_read tape old words addresses lines) k (rw length-map b)
              (λ m l lo. line_kept (volatile rules) j.line plan _ m l (sym (past_last (volatile rules) j.line plan m l (omega arith) (omega arith)))))
              );
        })
