-- What an accepted tape holds: a listing within the limits and marks, whose tape it is. So two accepted tapes with the same listing and the same marks
-- are the same tape, and an accepted tape has at most 34,561 bytes. Assumes nothing.
use Prim.Native.Nat.{ℕ, pred, ◌+◌, ◌*◌, ◌<◌, ◌≤◌}
use native.Mathlib.Omega.{arith}
use mathlib.Core.Path.{◌≡◌, refl, sym, ap, ◌∙◌}
use mathlib.Core.Bool.{Bool, true, false, true≢false, false≢true}
use mathlib.Core.List.{List, [], ◌∷◌, ◌++◌, append_assoc}
use mathlib.Core.Option.{none, some}
use lib.ListN.{length, drop, take, length-append, length-drop, take-append-drop}
use lib.Seq.{drop-drop, take_all}
use borrow.Author.Tests.{leb-true}
use Rattle.reference.specs.Lists.{is_empty}
use Rattle.reference.specs.Listing.{Token, Line, Listing, ◌at◌}
use Rattle.reference.specs.Tape.{TapeForm, old, header, Command, new_line, marked, new_token, end, write_command_by, write_lines_by, write_by, write, command_size_by, command_by}
use Rattle.reference.specs.Questions.{has_line, is_within, is_few, is_short, is_printable, is_over, Passed, count_in, is_end, add, read_by, read, add_marks, marks_in_by, marks_in}
use Rattle.reference.specs.Claim.{sum, size, token_count, text_in, text}
use Rattle.reference.proofs.Cases.{both, either, not-true, true-false}
use Rattle.reference.proofs.Weights.{sum-append}
use Rattle.reference.proofs.Lines.{sum-modify, length-modify}
use Rattle.reference.proofs.LittleEndian.{Bytes, bytes_drop}
use Rattle.reference.proofs.Commands.{AddressFitsBy, Sized, sized, WritableBy, writable, write_of-read}
use Rattle.reference.proofs.Reading.{PassesBy, State, left, ReachedBy, here, on, accepts_by, marks-read}
use Rattle.reference.proofs.Writing.{with_token, write-new_line, write-new_token, Fresh, write_new-marks}
use Rattle.reference.proofs.Limits.{All, all_append, all-modify, TokenFits, LineFits, Limits, MarksFitBy, MarksFit, TapeFitsBy, TapeFits}

-- ---- what the reading keeps

sum-add : (G : Line → ℕ) (t : Token) (n : ℕ) → ((l : Line) → G (with_token t l) ≡ G l + n) → (lines : Listing) → 1 ≤ length lines
    → sum G (add (new_token t) lines) ≡ sum G lines + n
unfolding add
sum-add G t n h lines le =
    let i : ℕ = pred (length lines) in
    omega (arith, sum-modify G (with_token t) i lines (omega arith), h (lines at i))

token_fits : (t : Token) → t.kind < 8 → is_within (new_token t) ≡ true → is_printable (new_token t) ≡ true → TokenFits t
unfolding is_within is_printable
token_fits t kind within printable =
    let w = both within in
    record {
      kind = kind;
      some_text = leb-true _ _ w.0;
      number = λ e. either _ w.1 (λ u. absurd (true-false e (not-true u))) (leb-true _ _);
      printable = not-true printable;
    }

-- the bytes of a 03 that may still come
abbrev pub to_come : Bool → ℕ
to_come true = 17
to_come false = 0

-- what holds at every place that the reading comes to
pub record KeptBy (form : TapeForm) (s : State) : Type 0 where
  pub lines : s.totals.lines ≡ length s.lines
  pub tokens : s.totals.tokens ≡ token_count s.lines
  pub text : s.totals.text ≡ text s.lines
  pub few_lines : s.totals.lines ≤ 256
  pub few_tokens : s.totals.tokens ≤ 1024
  pub short_text : s.totals.text ≤ 24576
  pub each : All LineFits s.lines
  pub place : s.at + to_come s.totals.fresh ≤ header form + s.totals.text + 3 * s.totals.tokens + 27 * s.totals.lines
  pub marks : length s.marks ≡ length s.lines
  pub fresh : s.totals.fresh ≡ true → Fresh s.lines s.marks

kept-command : {form : TapeForm} (s : State) (n : ℕ) (c : Command) → KeptBy form s → Sized c n → has_line s.totals c ≡ true → is_within c ≡ true
    → is_few s.totals c ≡ true → is_short s.totals c ≡ true → is_printable c ≡ true → is_end c ≡ false
    → KeptBy form (record { at = s.at + n; totals = count_in c s.totals; lines = add c s.lines; marks = add_marks c s.marks })
unfolding has_line is_within is_few is_short count_in
kept-command s n (new_line address indent) k z begun within few short printable no_end =
    let l : Line = record { address = address; indent = indent; tokens = [] } in
    unfold add add_marks in
    record {
      lines = omega (arith, k.lines, length-append s.lines (l ∷ []));
      tokens = omega (arith, k.tokens, sum-append (λ l. length l.tokens) s.lines (l ∷ []));
      text = omega (arith, k.text, sum-append (λ l. text_in l.tokens) s.lines (l ∷ []));
      few_lines = leb-true _ _ few;
      few_tokens = k.few_tokens;
      short_text = k.short_text;
      each = all_append LineFits s.lines (l ∷ []) k.each (record { indent = leb-true _ _ within; tokens = tt }, tt);
      place = omega (arith, k.place);
      marks = omega (arith, k.marks, length-append s.lines (l ∷ []), length-append s.marks (none ∷ []));
      fresh = λ e.
          record {
            above = s.lines;
            last = l;
            marks_above = s.marks;
            lines_are = refl;
            no_tokens = refl;
            marks_are = refl;
            same = k.marks;
          };
    }
kept-command {form = form} s n (marked span) k z begun within few short printable no_end =
    let b = both begun in
    let e : s.totals.fresh ≡ true = b.0 in
    let place : s.at + 17 ≤ header form + s.totals.text + 3 * s.totals.tokens + 27 * s.totals.lines = rw e at k.place in
    unfold add in
    record {
      lines = k.lines;
      tokens = k.tokens;
      text = k.text;
      few_lines = k.few_lines;
      few_tokens = k.few_tokens;
      short_text = k.short_text;
      each = k.each;
      place = omega (arith, place);
      marks = unfold add_marks in length-modify (λ m. some span) _ s.marks ∙ k.marks;
      fresh = λ e. absurd (false≢true e);
    }
kept-command s n (new_token t) k z begun within few short printable no_end =
    let there : 1 ≤ length s.lines = omega (arith, k.lines, leb-true 1 s.totals.lines begun) in
    let fits = token_fits t z.1 within printable in
    record {
      lines = unfold add in k.lines ∙ sym (length-modify (with_token t) _ s.lines);
      tokens = omega (arith, k.tokens, sum-add (λ l. length l.tokens) t 1 (λ l. omega (arith, length-append l.tokens (t ∷ []))) s.lines there);
      text = omega (arith, k.text, sum-add (λ l. text_in l.tokens) t (size t) (λ l. omega (arith, sum-append size l.tokens (t ∷ []))) s.lines there);
      few_lines = k.few_lines;
      few_tokens = leb-true _ _ few;
      short_text = leb-true _ _ short;
      each =
          unfold add in
          all-modify LineFits (with_token t)
          (λ l h. record { indent = h.indent; tokens = all_append TokenFits l.tokens (t ∷ []) h.tokens (fits, tt) })
          _
          s.lines
          k.each;
      place = omega (arith, k.place);
      marks = unfold add add_marks in k.marks ∙ sym (length-modify (with_token t) _ s.lines);
      fresh = λ e. absurd (false≢true e);
    }
kept-command s n end k z begun within few short printable no_end = absurd (true≢false no_end)

abbrev pub Kept : State → Type 0
Kept = KeptBy old

module _ {form : TapeForm} (tape : List ℕ) where
  pub kept : {s : State} → ReachedBy form tape s → KeptBy form s
  kept here =
      record {
        lines = refl;
        tokens = refl;
        text = refl;
        few_lines = omega arith;
        few_tokens = omega arith;
        short_text = omega arith;
        each = tt;
        place = omega arith;
        marks = refl;
        fresh = λ e. absurd (false≢true e);
      }
  kept (on {s = s} r p n) =
      kept-command s _ _ (kept r) (sized (left tape s) p.known p.inside) p.begun p.within p.few p.short p.printable n

  -- READ FROM THE START, THE TOTALS ARE THOSE OF THE LISTING SO FAR
  pub totals-so_far : {s : State} → ReachedBy form tape s
      → s.totals ≡ record { lines = length s.lines; tokens = token_count s.lines; text = text s.lines; fresh = s.totals.fresh }
  totals-so_far {s} r = let k = kept r in λ i. record { lines = k.lines i; tokens = k.tokens i; text = k.text i; fresh = s.totals.fresh }

-- ---- what an accepted tape is

is_end_end : (c : Command) → is_end c ≡ true → c ≡ end
is_end_end (new_line address indent) e = absurd (false≢true e)
is_end_end (marked s) e = absurd (false≢true e)
is_end_end (new_token t) e = absurd (false≢true e)
is_end_end end e = refl

is_empty-nil : (s : List ℕ) → is_empty s ≡ true → s ≡ []
is_empty-nil [] e = refl
is_empty-nil (x ∷ xs) e = absurd (false≢true e)

write_more : {form : TapeForm} (s : State) (c : Command) → KeptBy form s → has_line s.totals c ≡ true → is_end c ≡ false
    → write_lines_by form (add c s.lines) (add_marks c s.marks) ≡ write_lines_by form s.lines s.marks ++ write_command_by form c
unfolding has_line
write_more {form = form} s (new_line address indent) k begun n = write-new_line form s.lines s.marks k.marks address indent
write_more {form = form} s (marked span) k begun n = write_new-marks form span s.lines s.marks (k.fresh (both begun).0)
write_more {form = form} s (new_token t) k begun n =
    write-new_token form s.lines s.marks k.marks t (omega (arith, k.lines, leb-true 1 s.totals.lines begun))
write_more {form = form} s end k begun n = absurd (true≢false n)

module _ (form : TapeForm) (tape : List ℕ) where
  -- the bytes so far are those of the lines so far, with their marks
  written : Bytes tape → {s : State} → ReachedBy form tape s → write_lines_by form s.lines s.marks ++ left tape s ≡ drop (header form) tape
  unfolding write_lines_by
  written h here = refl
  written h (on {s = s} r p n) =
      let rest : List ℕ = left tape s in
      rw (
        write_more s (command_by form rest) (kept tape r) p.begun n,
        write_of-read rest (bytes_drop s.at tape h) p.known p.inside,
        ← drop-drop (command_size_by form rest) s.at tape,
        append_assoc (write_lines_by form s.lines s.marks) (take (command_size_by form rest) rest) (drop (command_size_by form rest) rest),
        take-append-drop (command_size_by form rest) rest,
      )
      (written h r)

  -- what is left at the end
  record AtEnd (rest : List ℕ) : Type 0 where
    one : length rest ≡ 1
    same : Bytes rest → rest ≡ write_command_by form end

  at_end : (s : State) → PassesBy form (left tape s) s.totals → is_end (command_by form (left tape s)) ≡ true → AtEnd (left tape s)
  unfolding is_over
  at_end s p e =
      let rest : List ℕ = left tape s in
      let ce : command_by form rest ≡ end = is_end_end (command_by form rest) e in
      let none_left : drop 1 rest ≡ [] = is_empty-nil _ (rw ce at p.over) in
      let sz : command_size_by form rest ≡ 1 = rw ce at (sized rest p.known p.inside) in
      let one : length rest ≡ 1 = omega (arith, p.inside, ap length none_left, length-drop 1 rest) in
      record { one = one; same = λ h. sym (rw (ce, sz, take_all 1 rest (omega arith)) at (write_of-read rest h p.known p.inside)) }

  -- AN ACCEPTED TAPE IS, from its first command on, THE TAPE OF ITS LISTING AND ITS MARKS
  pub write-read_by : (lines : Listing) → Bytes tape → read_by form tape ≡ Passed lines → write_by form lines (marks_in_by form tape) ≡ drop (header form) tape
  unfolding write_by
  write-read_by lines h e =
      let a = accepts_by form tape lines e in
      let w = at_end a.state a.passes a.ends in
      let last : write_command_by form end ≡ left tape a.state = sym (w.same (bytes_drop a.state.at tape h)) in
      (λ i. write_lines_by form (sym a.listing i) (marks-read tape lines a i) ++ last i) ∙ written h a.reached

  -- how long an accepted tape is at most; by offset it could be said closer
  pub accepted-length_by : (lines : Listing) → read_by form tape ≡ Passed lines → length tape ≤ header form + 34561
  accepted-length_by lines e =
      let a = accepts_by form tape lines e in
      let k = kept tape a.reached in
      let w = at_end a.state a.passes a.ends in
      omega (arith, k.place, k.few_lines, k.few_tokens, k.short_text, w.one, length-drop a.state.at tape)

  addressed : Bytes tape → {s : State} → ReachedBy form tape s → All (λ l. AddressFitsBy form l.address) s.lines
  addressed h here = tt
  addressed h (on {s = s} r p n) =
      more s (command_by form (left tape s)) (addressed h r) (writable (left tape s) (bytes_drop s.at tape h) p.known p.inside)
    where
      more : (s : State) (c : Command) → All (λ l. AddressFitsBy form l.address) s.lines → WritableBy form c
          → All (λ l. AddressFitsBy form l.address) (add c s.lines)
      more s (new_line address indent) k w = unfold add in all_append _ s.lines _ k (w, tt)
      more s (marked span) k w = unfold add in k
      more s (new_token t) k w = unfold add in all-modify _ (with_token t) (λ l u. u) _ s.lines k
      more s end k w = unfold add in k

  marks_fit-so_far : Bytes tape → {s : State} → ReachedBy form tape s → All (MarksFitBy form) s.marks
  marks_fit-so_far h here = tt
  marks_fit-so_far h (on {s = s} r p n) =
      more s (command_by form (left tape s)) (marks_fit-so_far h r) (writable (left tape s) (bytes_drop s.at tape h) p.known p.inside) p.begun
    where
      more : (s : State) (c : Command) → All (MarksFitBy form) s.marks → WritableBy form c → has_line s.totals c ≡ true → All (MarksFitBy form) (add_marks c s.marks)
      more s (new_line address indent) k w b = unfold add_marks in all_append (MarksFitBy form) s.marks _ k (tt, tt)
      more s (marked span) k w b =
          unfold add_marks has_line in
          all-modify (MarksFitBy form) (λ m. some span) (λ m u. (w, leb-true _ _ (both b).1)) _ s.marks k
      more s (new_token t) k w b = unfold add_marks in k
      more s end k w b = unfold add_marks in k

  -- WHAT AN ACCEPTED TAPE HOLDS IS WITHIN THE LIMITS
  pub read-limits_by : (lines : Listing) → read_by form tape ≡ Passed lines → Limits lines
  read-limits_by lines e =
      let a = accepts_by form tape lines e in
      let k = kept tape a.reached in
      record {
        few_lines = omega (arith, k.few_lines, k.lines, ap length a.listing);
        few_tokens = omega (arith, k.few_tokens, k.tokens, ap token_count a.listing);
        short_text = omega (arith, k.short_text, k.text, ap text a.listing);
        each = rw a.listing at k.each;
      }

  pub read-fits_by : (lines : Listing) → Bytes tape → read_by form tape ≡ Passed lines → TapeFitsBy form lines
  read-fits_by lines h e =
      let a = accepts_by form tape lines e in
      record { limits = read-limits_by lines e; addresses = rw a.listing at (addressed h a.reached) }

  -- THE 03S OF AN ACCEPTED TAPE: one for each line or none, the lowest first
  pub read-marks_fit_by : (lines : Listing) → Bytes tape → read_by form tape ≡ Passed lines → All (MarksFitBy form) (marks_in_by form tape) × (length (marks_in_by form tape) ≡ length lines)
  read-marks_fit_by lines h e =
      let a = accepts_by form tape lines e in
      let same = marks-read tape lines a in
      (rw same (marks_fit-so_far h a.reached), ap length same ∙ (kept tape a.reached).marks ∙ ap length a.listing)

-- ---- the old form, in the words of document 01

module _ (tape : List ℕ) where
  -- AN ACCEPTED TAPE IS THE TAPE OF ITS LISTING AND ITS MARKS
  pub write_read : (lines : Listing) → Bytes tape → read tape ≡ Passed lines → write lines (marks_in tape) ≡ tape
  write_read = write-read_by old tape

  -- AN ACCEPTED TAPE HAS AT MOST 34,561 BYTES
  pub accepted-length : (lines : Listing) → read tape ≡ Passed lines → length tape ≤ 34561
  accepted-length = accepted-length_by old tape

  -- WHAT AN ACCEPTED TAPE HOLDS IS WITHIN THE LIMITS
  pub read-limits : (lines : Listing) → read tape ≡ Passed lines → Limits lines
  read-limits = read-limits_by old tape

  pub read_fits : (lines : Listing) → Bytes tape → read tape ≡ Passed lines → TapeFits lines
  read_fits = read-fits_by old tape

  -- THE 03S OF AN ACCEPTED TAPE: one for each line or none, the lowest first
  pub read-marks_fit : (lines : Listing) → Bytes tape → read tape ≡ Passed lines → All MarksFit (marks_in tape) × (length (marks_in tape) ≡ length lines)
  read-marks_fit = read-marks_fit_by old tape

-- TWO ACCEPTED TAPES WITH THE SAME LISTING AND THE SAME MARKS ARE THE SAME TAPE
pub same_tape : (s t : List ℕ) (lines : Listing) → Bytes s → Bytes t → read s ≡ Passed lines → read t ≡ Passed lines → marks_in s ≡ marks_in t → s ≡ t
same_tape s t lines hs ht es et e = sym (write_read s lines hs es) ∙ ap (write lines) e ∙ write_read t lines ht et
