-- From the tables of an accepted tape to its new tape: what was loaded can be run, what the run left can be written, and what was written is
-- the reply's; and a work area that was worked in and wiped. Assumes nothing.
use Prim.Native.Nat.{ℕ, suc, ◌≤◌, ◌<◌, ◌+◌, zero-le}
use native.Mathlib.Omega.{arith}
use native.Mathlib.Nat.{le_trans}
use mathlib.Core.Path.{◌≡◌, refl, sym, ap, ◌∙◌}
use mathlib.Core.List.{List, [], ◌∷◌, ◌++◌, map}
use lib.ListN.{length, drop, take, get_or, length-map, replicate}
use lib.Seq.{length-take-le, get_or-take, take_at, drop_at}
use Rattle.reference.specs.Text.{Text}
use Rattle.reference.specs.Listing.{Token, Listing}
use Rattle.reference.specs.Rules.{Rules}
use Rattle.reference.specs.Run.{run, attempts_of, finished, counts}
use Rattle.reference.specs.Marks.{carry, finished_marks}
use Rattle.reference.specs.Claim.{sum}
use Rattle.reference.specs.Tape as Tape
use Rattle.reference.specs.Questions.{WORK, OUTPUT, Passed, read, marks_in}
use Rattle.reference.specs.Reply.{Cleaned, output_after, work_after}
use Rattle.reference.proofs.Cases.{by-if}
use Rattle.reference.proofs.Weights.{weigh, plain, excess, plain_text}
use Rattle.reference.proofs.Limits as L
use Rattle.reference.proofs.Limits.{All, TokenFits}
use Rattle.reference.proofs.Reading.{passed_inj}
use Rattle.reference.proofs.Tapes.{read-limits}
use Rattle.reference.proofs.Marks.{carried}
use Rattle.reference.proofs.Guarantee.{output-length}
use Rattle.joining.specs.Limits.{RunLimits}
use Rattle.lines.specs.Lines.{own, origin_of, bare}
use Rattle.lines.specs.Marks.{lows_of, highs_of}
use Rattle.lines.specs.declared.marks.Marks as code
use Rattle.lines.proofs.words.Lines.{bare-means}
use Rattle.lines.specs.declared.texts.Size.{Size}
use Rattle.join.specs.declared.workspace.Workspace.{Workspace}
use Rattle.join.specs.Contents.{Contents, contents, used_lines, listing_now, bare_now}
use Rattle.rounds.specs.Carries.{Held, Marked}
use Rattle.rounds.specs.Runs.{counts_of, Runnable, Ran}
use Rattle.rounds.specs.declared.run.Outcome.{Outcome}
use Rattle.tape.specs.declared.questions.Totals.{Totals}
use Rattle.tables.specs.Tables.{marks_for, Loaded, LoadedMarks}
use Rattle.tables.specs.Writing.{Wrote}
use Rattle.tables.proofs.loading.Loaded.{loaded-limits, loaded-rising}
use Rattle.clean.specs.Replies.{cleaned}
use Rattle.clean.specs.Cleaning.{ReplyWritten}

-- ---- the limits of a tape's listing, without its addresses

all-zero : {A : Type 0} {P : A → Type 0} {f : A → ℕ} → ((x : A) → P x → f x ≡ 0) → (xs : List A) → All P xs → sum f xs ≡ 0
all-zero h [] k = refl
all-zero h (x ∷ xs) k = omega (arith, h x k.0, all-zero h xs k.1)

small : (t : Token) → TokenFits t → weigh excess t ≡ 0
unfolding weigh
small t f = by-if (λ (n : ℕ). n ≡ 0) (λ e. omega (arith, f.number e)) (λ e. refl)

sum-bare : (f : List Token → ℕ) (ls : Listing) → sum (λ l. f l.tokens) (map bare ls) ≡ sum (λ l. f l.tokens) ls
sum-bare f [] = refl
sum-bare f (l ∷ ls) = ap (λ (n : ℕ). f l.tokens + n) (sum-bare f ls)

bare-limits : {lines : Listing} → L.Limits lines → RunLimits (map bare lines)
bare-limits {lines} l =
    record {
      lines_fit = rw length-map l.few_lines;
      fits =
          record {
            few = rw (sum-bare length lines) l.few_tokens;
            short = rw (sum-bare (sum (weigh plain)) lines) (le_trans (plain_text lines) l.short_text);
            small = sum-bare (sum (weigh excess)) lines ∙ all-zero (λ l f. all-zero small l.tokens f.tokens) lines l.each;
          };
    }

-- ---- what was loaded

all_mapped : (P : ℕ → Type 0) (f : ℕ → ℕ) (xs : List ℕ) → ((i : ℕ) → i < length xs → P (f (get_or xs i 0))) → All P (map f xs)
all_mapped P f [] h = tt
all_mapped P f (x ∷ xs) h = (h 0 (omega arith), all_mapped P f xs (λ i b. h (suc i) (omega arith)))

-- nothing stands in the area yet
abbrev start : Totals → Size
start t = record { lines = t.lines; tokens = t.tokens; text = 0 }

-- what stands in these tables, and its tape
abbrev standing : Text → Text → List ℕ → List ℕ → List code.Marks → Size → Contents
standing tape area tokens lines marks at =
    record { tape = tape; area = area; tokens = tokens; lines = lines; size = at; lows = lows_of marks; highs = highs_of marks }

abbrev tape_of : List ℕ → Contents → List ℕ
tape_of addresses s = Tape.write (listing_now s (own addresses)) (marks_for s.lows s.highs (used_lines s))

module _ {tape tokens lines addresses : List ℕ} {t : Totals} (l : Loaded tape tokens lines addresses t) (area : Text) where
  loaded_is : read tape ≡ Passed (listing_now (standing tape area tokens lines [] (start t)) (own addresses))
  loaded_is = l.listing (take 0 area)

  limits-loaded : RunLimits (bare_now (standing tape area tokens lines [] (start t)))
  limits-loaded =
      rw (bare-means tape (take 0 area) (take t.tokens tokens) (own addresses) (take t.lines lines))
      (bare-limits (read-limits tape _ loaded_is))

  module _ (marks : List code.Marks) (m : LoadedMarks tape lines (lows_of marks) (highs_of marks) t) (k : length lines ≡ 256) (em : length marks ≡ 256) where
    -- the tables have the marks of the lines that were loaded
    loaded-marked : Marked (map origin_of (take t.lines lines)) (lows_of marks) (highs_of marks)
    loaded-marked =
        let few = loaded-limits l in
        let fits : t.lines ≤ length lines = omega (arith, few) in
        let front : List ℕ = take t.lines lines in
        let long : length front ≡ t.lines = length-take-le t.lines lines fits in
        record {
          rising = loaded-rising fits m;
          each =
              all_mapped (Held (lows_of marks) (highs_of marks)) origin_of front
              (λ i b.
              (let below : i < t.lines = omega arith in
              let here : origin_of (get_or front i 0) ≡ i = ap origin_of (get_or-take t.lines lines i 0 below) ∙ m.origins i below in
              rw here (
              record {
                low_inside = omega (arith, few, length-map marks (λ m. m.low));
                high_inside = omega (arith, few, length-map marks (λ m. m.high));
                kept = m.kept i below;
              }
              )));
        }

    -- ---- what the run left

    module _ (rules : Rules) (w : Workspace) {r : Outcome}
        (p : Ran rules (standing tape area tokens lines marks (start t)) (contents tape w r.size) r) where
      left_marks : (input : Listing) → listing_now (standing tape area tokens lines marks (start t)) (own addresses) ≡ input
          → marks_for (lows_of w.marks.now) (highs_of w.marks.now) (used_lines (contents tape w r.size)) ≡ finished_marks rules input (marks_in tape)
      left_marks input same =
          (p.marks (own addresses) loaded-marked).1
          ∙ rw same
          (ap (carry (attempts_of (run rules input))) (m.means input (loaded_is ∙ ap Passed same)) ∙ carried rules input (marks_in tape))

      -- what stands in the area and in the tables after the run is what the workspace said
      module _ {left-area : Text} {left-tokens left-words : List ℕ} {left-table : List code.Marks} (ea : left-area ≡ w.area.now)
          (et : left-tokens ≡ w.tokens.now) (el : left-words ≡ w.lines.now) (eh : left-table ≡ w.marks.now) where
        pub fits-output : {n : ℕ} → OUTPUT ≤ n → length (tape_of addresses (standing tape left-area left-tokens left-words left-table r.size)) ≤ n
        fits-output h =
            rw (ea, et, el, eh, p.finished (own addresses))
            (le_trans (output-length rules tape _ (marks_for (lows_of w.marks.now) (highs_of w.marks.now) (used_lines (contents tape w r.size))) loaded_is) h)

        left_is : (input : Listing) → listing_now (standing tape area tokens lines marks (start t)) (own addresses) ≡ input
            → tape_of addresses (standing tape left-area left-tokens left-words left-table r.size)
            ≡ Tape.write (finished rules input) (finished_marks rules input (marks_in tape))
        left_is input same =
            let lines_are : listing_now (contents tape w r.size) (own addresses) ≡ finished rules input = p.finished (own addresses) ∙ ap (finished rules) same in
            rw (ea, et, el, eh) (λ i. Tape.write (lines_are i) (left_marks input same i))

        pub writes : {out out' : List ℕ} {n : ℕ} → Wrote (tape_of addresses (standing tape left-area left-tokens left-words left-table r.size)) out out' n
            → (input : Listing) → read tape ≡ Passed input → ReplyWritten (cleaned rules tape input) out out' (record { length = n; tally = r.tally; removed = r.removed; cut = r.cut })
        unfolding output_after
        writes {out} o input e =
            let same : listing_now (standing tape area tokens lines marks (start t)) (own addresses) ≡ input = passed_inj (sym loaded_is ∙ e) in
            let is = left_is input same in
            let counted : counts_of r ≡ counts rules (run rules input) = p.counts (own addresses) ∙ ap (λ l. counts rules (run rules l)) same in
            let long = o.ends ∙ ap length is in
            record {
              summary_is = λ i. Passed (record { length = long i; counts = counted i });
              output_is = o.holds ∙ ap (λ s. s ++ drop (length s) out) is;
            }

-- ---- the workspace of a loaded listing

-- its run can begin
pub loaded-runnable : {tape addresses : List ℕ} (w : Workspace) {t : Totals} → Loaded tape w.tokens.now w.lines.now addresses t
    → WORK ≤ length w.area.now → WORK ≤ length w.area2.now → length w.tokens.now ≡ 2048 → length w.lines.now ≡ 256 → length w.tokens2.now ≡ 2048
    → length w.marks.now ≡ 256 → Runnable tape w (start t)
loaded-runnable w l a b k n k2 m =
    let few = loaded-limits l in
    record {
      current =
          record {
            text_fits = zero-le;
            words_fit = omega (arith, few);
            lines_fit = omega (arith, few);
            listed = l.listed (take 0 w.area.now);
          };
      limits = limits-loaded l w.area.now;
      lent =
          record {
            first_text = a;
            first_words = omega arith;
            second_text = b;
            second_words = omega arith;
          };
      words_short = omega arith;
      for_marks = omega arith;
    }

-- ---- a work area, worked in at its front and wiped

-- n bytes at its front are worked in, and wiped
module _ (work : List ℕ) (h : WORK ≤ length work) {n : ℕ} (u : n ≡ WORK) where
  front_length : length (take n work) ≡ n
  front_length = length-take-le n work (omega arith)

  pub front_long : (front : List ℕ) → length front ≡ length (take n work) → length (take n (front ++ drop n work)) ≡ n
  front_long front k = rw (take_at front (drop n work) n (k ∙ front_length)) (k ∙ front_length)

  pub wiped : (front : List ℕ) → length front ≡ length (take n work) → (c : Cleaned) {zeros : List ℕ}
      → zeros ≡ replicate (length (take n (front ++ drop n work))) 0 → zeros ++ drop n (front ++ drop n work) ≡ work_after (Passed c) work
  unfolding work_after
  wiped front k c e =
      rw (e, take_at front (drop n work) n (k ∙ front_length), drop_at front (drop n work) n (k ∙ front_length), k, front_length)
      (ap (λ (i : ℕ). replicate i 0 ++ drop i work) u)
