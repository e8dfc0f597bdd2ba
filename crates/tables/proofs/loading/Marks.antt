-- The marks of the lines that were read so far, in the records: what a command makes of them, and what two tables that have them mean. Assumes nothing.
use Prim.Native.Nat.{ℕ, zero, suc, ◌+◌, ◌-◌, ◌≤◌, ◌<◌, min, max}
use native.Mathlib.Nat.{add-zero}
use native.Mathlib.Omega.{arith}
use native.Mathlib.Decide.{ℕ_discrete}
use mathlib.Core.Logic.{by_cases, inl, inr}
use mathlib.Core.Path.{◌≡◌, refl, sym, ap, subst, ◌∙◌}
use mathlib.Core.Bool.{true, false}
use mathlib.Core.List.{List, [], ◌∷◌, ◌++◌, append-nil}
use mathlib.Core.Option.{none, some}
use lib.ListN.{length, take, drop, get_or, set, length-append, length-set, length-map, get_or-append}
use lib.Seq.{get_or-drop, get_or-append-add, get_or-take, get_or-set_same, get_or-set_other, set-get_or, ext_get_or, length-take-le}
use lib.Dec.{leb}
use borrow.Author.Tests.{leb-true}
use Rattle.reference.specs.Control.{let_some◌else◌then◌}
use Rattle.reference.specs.Lists.{modify}
use Rattle.reference.specs.Listing as L
use Rattle.reference.specs.Listing.{token, Line, Listing}
use Rattle.reference.specs.Spans.{Span, Marks, hull, span_of}
use Rattle.reference.specs.Marks.{adds, own_marks}
use Rattle.reference.specs.Tape.{old, marked}
use Rattle.reference.specs.Questions as Q
use Rattle.reference.specs.Questions.{has_line, Passed, read_command, add, add_marks, read, marks_in}
use Rattle.reference.proofs.Cases.{both}
use Rattle.reference.proofs.Commands as R
use Rattle.reference.proofs.LittleEndian.{Bytes, bytes_drop}
use Rattle.reference.proofs.Marks.{own-length}
use Rattle.reference.proofs.Reading.{passed_inj, let_is}
use Rattle.reference.proofs.Spans.{span_append}
use Rattle.reference.proofs.Tapes as Tapes
use Rattle.reference.proofs.Writing.{with_token, Fresh, mark-last}
use Rattle.joining.specs.Carried.{TOP, Pair, marks_of, Kept, joined, pair_at}
use Rattle.joining.proofs.Carried.{some_marks, no_marks, joined-marks, kept-joined}
use Rattle.std.proofs.lemmas.List.{map-set}
use Rattle.lines.specs.declared.marks.Marks as Held
use Rattle.lines.specs.Marks.{highs_of, lows_of}
use Rattle.lines.specs.Lines.{origin_of}
use Rattle.lines.proofs.words.Each.{map_at}
use Rattle.lines.proofs.words.Lines.{word_origin}
use Rattle.tape.specs.Commands.{command_in, size_of, ends}
use Rattle.tape.specs.Questions.{Sizes, sizes_in, totals_of, counted, Counts}
use Rattle.tables.specs.Tables.{marks_for, Loaded, LoadedMarks}
use Rattle.tables.specs.Records.{blank, flag_of, pair_of, Holding, Marking, MarksRecorded, Recorded, records_after}
use Rattle.tape.specs.declared.commands.Command.{Command}
use Rattle.tape.specs.declared.commands.Command.TheVariants.{Addressed, Plain, Marked, Token, End}
use Rattle.tape.specs.declared.questions.Totals.{Totals}
use Rattle.tables.specs.declared.records.LineRecord.{LineRecord}
use Rattle.tables.proofs.loading.Records.{flag_low}
use Rattle.tape.proofs.commands.Standing.{Stands}
use Rattle.tape.proofs.questions.Asking.{advanced, ends_same}
use Rattle.tape.proofs.questions.Reading.{Reads, reads_begin, reads_on, read_passed, marks_passed}

-- ---- the marks of one line

-- a line's own marks, by its number
own_at : (lines : Listing) (marks : List Marks) (k : ℕ) → k < length lines → get_or (own_marks lines marks) k none ≡ span_of (adds (get_or lines k L.blank) (get_or marks k none))
unfolding own_marks
own_at [] marks k h = absurd (omega arith)
own_at (l ∷ ls) marks zero h = refl
own_at (l ∷ ls) marks (suc k) h =
    let e : 1 + k ≡ suc k = omega arith in
    own_at ls (drop 1 marks) k (omega arith) ∙ ap (λ (m : Marks). span_of (adds (get_or ls k L.blank) m)) (get_or-drop 1 marks k none ∙ ap (λ (i : ℕ). get_or marks i none) e)

-- they hang on its address alone
adds_same : (l l' : Line) (m : Marks) → l.address ≡ l'.address → adds l m ≡ adds l' m
unfolding adds
adds_same l l' m e = rw e

addressed-kept : (address : ℕ) → address ≤ TOP → Kept (address, address)
addressed-kept address h = record { in_64_bits = (h, h); some_or_none = inl (omega arith) }

addressed-marks : (address indent : ℕ) → marks_of (address, address) ≡ span_of (adds (record { address = some address; indent = indent; tokens = [] }) none)
unfolding adds span_of hull let_some◌else◌then◌
addressed-marks address indent = some_marks (address, address) (omega arith)

none_kept : Kept (TOP, 0)
none_kept = record { in_64_bits = (omega arith, omega arith); some_or_none = inr (refl, refl) }

plain-marks : (indent : ℕ) → marks_of (TOP, 0) ≡ span_of (adds (record { address = none; indent = indent; tokens = [] }) none)
unfolding adds span_of let_some◌else◌then◌
plain-marks indent = no_marks (TOP, 0) (omega arith)

-- a 03 joins its two to them
two_marks : (s : Span) → s.lowest ≤ s.highest → span_of (s.lowest ∷ s.highest ∷ []) ≡ some s
unfolding span_of hull
two_marks s h =
    let low : min s.lowest s.highest ≡ s.lowest = omega arith in
    let high : max s.lowest s.highest ≡ s.highest = omega arith in
    λ i. some (record { lowest = low i; highest = high i })

with_marks : (l : Line) (s : Span) → s.lowest ≤ s.highest → span_of (adds l (some s)) ≡ hull (span_of (adds l none)) (some s)
unfolding adds let_some◌else◌then◌
with_marks l s h =
    let own : List ℕ = let_some l.address else [] then λ a. a ∷ [] in
    span_append own (s.lowest ∷ s.highest ∷ [])
    ∙ ap (hull (span_of own)) (two_marks s h)
    ∙ ap (λ (xs : List ℕ). hull (span_of xs) (some s)) (sym (append-nil own))

-- ---- another record at j: the others are as before

last_at : {A : Type 0} (xs : List A) (x d : A) (k : ℕ) → k ≡ length xs → get_or (xs ++ (x ∷ [])) k d ≡ x
last_at xs x d k e = rw (e, ← add-zero (length xs)) (get_or-append-add xs (x ∷ []) 0 d)

address-modify : (g : Line → Line) → ((l : Line) → (g l).address ≡ l.address) → (j : ℕ) (lines : Listing) (k : ℕ)
    → (get_or (modify j g lines) k L.blank).address ≡ (get_or lines k L.blank).address
address-modify g e j [] k = refl
address-modify g e zero (l ∷ ls) zero = e l
address-modify g e zero (l ∷ ls) (suc k) = refl
address-modify g e (suc j) (l ∷ ls) zero = refl
address-modify g e (suc j) (l ∷ ls) (suc k) = address-modify g e j ls k

module _ {listing : Listing} {marks : List Marks} {records : List LineRecord} {n : ℕ} (m : MarksRecorded listing marks records n) where
  marks-set : {listing' : Listing} {marks' : List Marks} (j n' : ℕ) (r : LineRecord) → j < length records
      → marks_of (pair_of r) ≡ span_of (adds (get_or listing' j L.blank) (get_or marks' j none)) → Kept (pair_of r)
      → ((k : ℕ) → k < n' → (k ≡ j → ⊥) → (k < n) × (adds (get_or listing k L.blank) (get_or marks k none) ≡ adds (get_or listing' k L.blank) (get_or marks' k none)))
      → MarksRecorded listing' marks' (set records j r) n'
  marks-set j n' r inside its kept others =
      let here : get_or (set records j r) j blank ≡ r = get_or-set_same records j r blank inside in
      record {
        at = λ k b.
            by_cases (ℕ_discrete k j)
            (λ e. rw (e, here) its)
            (λ e. let o = others k b e in rw (get_or-set_other records j k r blank e) (m.at k o.0 ∙ ap span_of o.1));
        kept = λ k b.
            by_cases (ℕ_discrete k j)
            (λ e. rw (e, here) kept)
            (λ e. rw (get_or-set_other records j k r blank e) (m.kept k (others k b e).0));
      }

  module _ (long : n < length records) (lines_are : n ≡ length listing) (marks_are : length marks ≡ length listing) where
    -- a line more
    line_noted : (l : Line) (r : LineRecord) → marks_of (pair_of r) ≡ span_of (adds l none) → Kept (pair_of r)
        → MarksRecorded (listing ++ (l ∷ [])) (marks ++ (none ∷ [])) (set records n r) (n + 1)
    line_noted l r its kept =
        marks-set n (n + 1) r long
        (rw (last_at listing l L.blank n lines_are, last_at marks none none n (omega arith)) its)
        kept
        (λ k b e.
        (let low : k < n = omega (arith, e) in
        (low, rw (get_or-append listing (l ∷ []) L.blank k (omega arith), get_or-append marks (none ∷ []) none k (omega arith)))))

  -- a token more in the last line
  token-noted : (g : Line → Line) → ((l : Line) → (g l).address ≡ l.address) → (p j : ℕ) (r : LineRecord) → j < n → j < length records
      → pair_of r ≡ pair_of (get_or records j blank) → MarksRecorded (modify p g listing) marks (set records j r) n
  token-noted g e p j r low inside same =
      let its : (k : ℕ) → adds (get_or listing k L.blank) (get_or marks k none) ≡ adds (get_or (modify p g listing) k L.blank) (get_or marks k none) =
      λ k. adds_same (get_or listing k L.blank) (get_or (modify p g listing) k L.blank) (get_or marks k none) (sym (address-modify g e p listing k)) in
      marks-set j n r inside
      (ap marks_of same ∙ m.at j low ∙ ap span_of (its j))
      (rw same (m.kept j low))
      (λ k b d. (b, its k))

  -- its 03
  marks-noted : (s : Span) (j : ℕ) (r : LineRecord) → Fresh listing marks → suc j ≡ n → n ≡ length listing → j < length records
      → pair_of r ≡ joined (pair_of (get_or records j blank)) (s.lowest, s.highest) → R.SpanFits s → s.lowest ≤ s.highest
      → MarksRecorded listing (add_marks (marked s) marks) (set records j r) n
  marks-noted s j r f e lines_are inside is fits order =
      let q : Pair = (s.lowest, s.highest) in
      let old = m.kept j (omega arith) in
      let mine : Kept q = record { in_64_bits = (omega (arith, fits.0), omega (arith, fits.1)); some_or_none = inl order } in
      let place : j ≡ length f.marks_above = omega (arith, ap length f.lines_are, length-append f.above (f.last ∷ []), f.same) in
      let before : get_or marks j none ≡ none = rw f.marks_are (last_at f.marks_above none none j place) in
      let now : add_marks (marked s) marks ≡ f.marks_above ++ (some s ∷ []) =
      ap (add_marks (marked s)) f.marks_are ∙ mark-last s f.marks_above none in
      rw now
      (marks-set j n r inside
      (ap marks_of is
      ∙ joined-marks (pair_of (get_or records j blank)) q old mine
      ∙ rw (some_marks q order, last_at f.marks_above (some s) none j place, with_marks (get_or listing j L.blank) s order)
      (ap (λ (k : Marks). hull k (some s)) (m.at j (omega arith) ∙ ap (λ (k : Marks). span_of (adds (get_or listing j L.blank) k)) before)))
      (rw is (kept-joined (pair_of (get_or records j blank)) q old mine))
      (λ k b d.
      (let low : k < length f.marks_above = omega (arith, d) in (
        b,
        ap (adds (get_or listing k L.blank)) (ap (λ (l : List Marks). get_or l k none) f.marks_are ∙ get_or-append f.marks_above (none ∷ []) none k low
            ∙ sym (get_or-append f.marks_above (some s ∷ []) none k low)),
      ))))

-- ---- as a loop's invariant: the reading comes to an offset, and the records have the marks so far

pub record Noted (tape : List ℕ) (records : List LineRecord) (at : ℕ) (t : Totals) : Type 0 where
  pub reads : Reads tape at (totals_of t)
  pub marks : MarksRecorded reads.lines reads.marks records t.lines

pub noted_none : (tape : List ℕ) (records : List LineRecord) → Noted tape records 0 (record { lines = 0; tokens = 0; text = 0; fresh = false })
noted_none tape records = record { reads = reads_begin old tape; marks = record { at = λ k b. absurd (omega arith); kept = λ k b. absurd (omega arith) } }

module _ {tape : List ℕ} {records : List LineRecord} {at : ℕ} {t : Totals} (n : Noted tape records at t) {c : Command} (s : Stands tape at c)
    (passed : Passed (advanced old tape at (totals_of t) c) ≡ read_command tape at (totals_of t)) where
  module _ (few : t.lines ≤ 256) (long : 256 ≤ length records) (bytes : Bytes tape)
      (begun : has_line (totals_of t) (command_in tape at c) ≡ true) where
    kept : Tapes.Kept (record { at = at; totals = totals_of t; lines = n.reads.lines; marks = n.reads.marks })
    kept = Tapes.kept tape n.reads.reached

    -- the records with a command have the marks with it
    marks-after : (c : Command) → Counts c t → has_line (totals_of t) (command_in tape at c) ≡ true → R.Writable (command_in tape at c)
        → MarksRecorded (add (command_in tape at c) n.reads.lines) (add_marks (command_in tape at c) n.reads.marks) (records_after c t records) (counted c (totals_of t)).lines
    unfolding add add_marks
    marks-after (Addressed address indent) low begun fits =
        line_noted n.marks (omega arith) kept.lines kept.marks (record { address = some address; indent = indent; tokens = [] }) _
        (addressed-marks address indent) (addressed-kept address (omega (arith, fits)))
    marks-after (Plain indent) low begun fits =
        line_noted n.marks (omega arith) kept.lines kept.marks (record { address = none; indent = indent; tokens = [] }) _ (plain-marks indent) none_kept
    marks-after (Marked low high) counts begun fits =
        let b : (t.fresh ≡ true) × (leb low high ≡ true) = unfold has_line in both begun in
        let f = kept.fresh b.0 in
        let some_line : 0 < t.lines = omega (arith, kept.lines, ap length f.lines_are, length-append f.above (f.last ∷ [])) in
        marks-noted n.marks (record { lowest = low; highest = high }) (t.lines - 1) _ f (omega arith) kept.lines (omega arith) refl fits (leb-true low high b.1)
    marks-after (Token kind count) counts begun fits =
        let some_line : 1 ≤ t.lines = unfold has_line in leb-true 1 t.lines begun in
        token-noted n.marks (with_token (token kind (take count (drop (at + 3) tape)))) (λ l. refl) _ (t.lines - 1) _ (omega arith) (omega arith) refl
    marks-after End counts begun fits = rw (set-get_or records (t.lines - 1) blank) n.marks

    pub noted_more : Counts c t → ends c ≡ false → {at' : ℕ} {t' : Totals} → at' ≡ at + size_of c → totals_of t' ≡ counted c (totals_of t)
        → Noted tape (records_after c t records) at' t'
    noted_more counts goes e₁ e₂ =
        let on = reads_on n.reads passed (ends_same old tape at c ∙ goes) in
        let fits : R.Writable (command_in tape at c) = rw s.same (R.writable (drop at tape) (bytes_drop at tape bytes) s.known s.inside) in
        record {
          reads =
              record {
                lines = add (command_in tape at c) n.reads.lines;
                marks = add_marks (command_in tape at c) n.reads.marks;
                reached = rw (e₁, e₂) on.reached;
              };
          marks = rw (ap (λ (q : Q.Totals). q.lines) e₂) (marks-after c counts begun fits);
        }

-- at FF they are the listing's
module _ {tape : List ℕ} {records : List LineRecord} {at : ℕ} {t : Totals} (n : Noted tape records at t) {a : Q.Advance}
    (passed : Passed a ≡ read_command tape at (totals_of t)) (over : Q.is_end a.command ≡ true) where
  pub noted-ends : (listing : Listing) → read tape ≡ Passed listing → MarksRecorded listing (marks_in tape) records t.lines
  noted-ends listing e =
      let same : n.reads.lines ≡ listing = passed_inj (sym (read_passed n.reads passed over) ∙ e) in
      subst (λ (l : Listing). MarksRecorded l (marks_in tape) records t.lines) same
      (subst (λ (m : List Marks). MarksRecorded n.reads.lines m records t.lines) (sym (marks_passed n.reads passed over)) n.marks)

-- ---- two tables that have them

-- one record more
pub marking_more : {records : List LineRecord} {k : ℕ} (marks : List Held.Marks) → k < 256 → Marking records k (lows_of marks) (highs_of marks)
    → let m = (get_or records k blank).marks in Marking records (k + 1) (lows_of (set marks k m)) (highs_of (set marks k m))
marking_more {records} {k} marks b m =
    let r = (get_or records k blank).marks in
    let lows = lows_of marks in
    let highs = highs_of marks in
    rw (map-set (λ (m : Held.Marks). m.low) marks k r, map-set (λ (m : Held.Marks). m.high) marks k r)
    (record {
      long_lows = rw length-set m.long_lows;
      long_highs = rw length-set m.long_highs;
      at = λ j h.
          by_cases (ℕ_discrete j k)
          (λ e.
          (let low : get_or (set lows k r.low) k 0 ≡ r.low = get_or-set_same lows k r.low 0 (omega (arith, m.long_lows)) in
          let high : get_or (set highs k r.high) k 0 ≡ r.high = get_or-set_same highs k r.high 0 (omega (arith, m.long_highs)) in
          rw (e, low, high)))
          (λ e. rw (get_or-set_other lows k j r.low 0 e, get_or-set_other highs k j r.high 0 e) (m.at j (omega (arith, e))));
    })

pub marking-front : (records : List LineRecord) (n : ℕ) {lows highs : List ℕ} → n ≤ length records → Marking (take n records) (length (take n records)) lows highs
    → Marking records n lows highs
marking-front records n few m =
    record {
      long_lows = m.long_lows;
      long_highs = m.long_highs;
      at = λ k b. rw (get_or-take n records k blank b) at (m.at k (omega (arith, length-take-le n records few)));
    }

module _ {tape tokens lines addresses lows highs : List ℕ} {records : List LineRecord} {r : Totals} (d : Recorded tape tokens records r)
    (h : Holding records r.lines lines addresses) (m : Marking records r.lines lows highs) where
  loaded : Loaded tape tokens lines addresses r
  loaded = d.loaded lines addresses h

  origin_at : (k : ℕ) → k < r.lines → origin_of (get_or lines k 0) ≡ k
  origin_at k b =
      let w : LineRecord = get_or records k blank in
      let f = d.fitting k b in
      rw (h.at k b).word (word_origin w.first w.count w.indent (flag_of w.address) k f.first f.count f.indent (flag_low w.address) (omega (arith, d.few)))

  pub loaded-marks : LoadedMarks tape lines lows highs r
  loaded-marks =
      record {
        origins = origin_at;
        kept = λ k b. rw (m.at k b) ((d.marks _ (loaded.listing [])).kept k b);
        means = λ listing e.
            (let n : length listing ≡ r.lines = ap (λ (s : Sizes). s.lines) (passed_inj (sym (let_is (λ lines. Passed (sizes_in lines)) e) ∙ loaded.totals)) in
            let long : length (take r.lines lines) ≡ r.lines = length-take-le r.lines lines (omega (arith, d.few, h.long_lines)) in
            let f : ℕ → Marks = λ l. marks_of (pair_at lows highs (origin_of l)) in
            ext_get_or none (marks_for lows highs (take r.lines lines)) (own_marks listing (marks_in tape))
            (length-map (take r.lines lines) f ∙ long ∙ sym n ∙ sym (own-length listing (marks_in tape)))
            (λ k b.
            (let low : k < r.lines = omega (arith, length-map (take r.lines lines) f) in
            map_at f (take r.lines lines) k none (omega arith)
            ∙ ap f (get_or-take r.lines lines k 0 low)
            ∙ ap (λ (o : ℕ). marks_of (pair_at lows highs o)) (origin_at k low)
            ∙ ap marks_of (m.at k low)
            ∙ (d.marks listing e).at k low
            ∙ sym (own_at listing (marks_in tape) k (omega arith)))));
      }
