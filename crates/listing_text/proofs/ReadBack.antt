-- Issue 28: show --exact and then tape give the tape itself. Of every tape that is shown without a refusal (`read_back`), and so of every
-- accepted one (`accepted-read-back`). Assumes nothing.
use Prim.Native.Nat.{ℕ, zero, suc, ◌+◌, ◌^◌, ◌≤◌, ◌<◌}
use native.Mathlib.Omega.{arith}
use native.Mathlib.Decide.{dec_lt}
use mathlib.Core.Logic.{by_cases}
use mathlib.Core.Path.{◌≡◌, refl, sym, ap, ◌∙◌, subst}
use mathlib.Core.Bool.{Bool, true, false, true≢false, false≢true}
use mathlib.Core.List.{List, [], ◌∷◌, ◌++◌, append_assoc, append-nil}
use mathlib.Core.Option.{Option, none, some}
use lib.ListN.{length, drop, take-append-drop}
use lib.Seq.{drop-drop}
use borrow.Author.Tests.{ne_eqb, le-leb, leb-true}
use Rattle.reference.specs.Control.{when◌then◌else◌, ◌and◌}
use Rattle.reference.specs.Text.{Text}
use Rattle.reference.specs.Listing.{Listing}
use Rattle.reference.specs.Tape.{old, Command, new_line, marked, new_token, end, write_command, command_of, command_size}
use Rattle.reference.specs.Questions.{Totals, has_line, is_within, is_few, is_short, is_printable, is_over, is_end}
use Rattle.reference.specs.Questions.{Answer, Refused, Passed, ask, count_in, Advance, read_command, read_command_by, add, no_commands, read_from_by, read_from, read_by, read}
use Rattle.reference.proofs.Cases.{by-if, not-true}
use Rattle.reference.proofs.LittleEndian.{Bytes, bytes_drop}
use Rattle.reference.proofs.Commands.{Sized, sized, WritableBy, writable, write_of-read}
use Rattle.reference.proofs.Reading.{Passes, command_passed, pass_command, advances, by_passed, refused_passed}
use Rattle.laws.proofs.Scans.{by_test, empty_is}
use Rattle.tape.proofs.questions.Asking.{Numbered}
use Rattle.listing_text.specs.Forms.{line_end, exact_command}
use Rattle.listing_text.specs.Showing.{Shown, in_front, begun, shown_at, shown_from, shown}
use Rattle.listing_text.specs.Exact.{ended, then_lines, lines_read, tape_of}
use Rattle.listing_text.specs.RoundTrip.{ReadsBack}
use Rattle.listing_text.proofs.Parts.{ended_then}
use Rattle.listing_text.proofs.Numerals.{Above, avoids_without}
use Rattle.listing_text.proofs.Written.{token-field, span_field, token_back, token-above, span_back, span_above, Fits, front_text, Line, front_line, longer_line, printable-above}

-- ---- lines

-- a text reads as these bytes, no line of it wrong
abbrev Reads : ℕ → Text → List ℕ → Type 0
Reads n text b = lines_read n (ended 10 text) ≡ record { bytes = b; wrong = none }

first_line : (n : ℕ) (l : Text) (b : List ℕ) (text : Text) (c : List ℕ) → Line l b → Reads (suc n) text c → Reads n (l ++ 10 ∷ text) (b ++ c)
unfolding lines_read then_lines when◌then◌else◌
first_line n l b text c k e = rw (ended_then 10 l text (avoids_without 10 l k.one), k.right, e)

reads_as : (n : ℕ) {s t : Text} {b c : List ℕ} → s ≡ t → b ≡ c → Reads n s b → Reads n t c
reads_as n e f r = ap (λ (u : Text). lines_read n (ended 10 u)) (sym e) ∙ r ∙ (λ i. record { bytes = f i; wrong = none })

-- ---- no question has the number 0

ask-numbered : {A : Type 0} (place : ℕ → ℕ) (qs : List (ℕ × Bool)) (x : A) {m p : ℕ} → Numbered qs → ask place qs (Passed x) ≡ Refused m p → m ≡ 0 → ⊥
unfolding ask
ask-numbered place [] x n = λ e z. refused_passed (sym e)
ask-numbered place (q ∷ qs) x {m} {p} n =
    by-if (λ (r : Answer _). r ≡ Refused m p → m ≡ 0 → ⊥) (λ yes e z. ask-numbered place qs x n.1 e z)
    (λ no e z.
    let same : q.0 ≡ m = (let k = e in cc) in
    omega (arith, n.0))

never_zero : (tape : List ℕ) (at : ℕ) (t : Totals) {m p : ℕ} → read_command tape at t ≡ Refused m p → m ≡ 0 → ⊥
unfolding read_command_by
never_zero tape at t e z =
    ask-numbered _ _ _ (omega arith, (omega arith, (omega arith, (omega arith, (omega arith, (omega arith, (omega arith, (omega arith, tt)))))))) e z

-- ---- a command that passed

-- what its text needs; `rest` is the tape behind it
abbrev Good : List ℕ → Command → Type 0
Good rest (new_line a indent) = Fits a × (indent ≤ 63)
Good rest (marked s) = (s.lowest < 16 ^ 16) × (s.highest < 16 ^ 16)
Good rest (new_token t) = (t.kind < 8) × (length t.text < 2 ^ 16) × Above t.text
Good rest end = rest ≡ []

fits_of : (a : Option ℕ) → WritableBy old (new_line a 0) → Fits a
fits_of none w = tt
fits_of (some n) w = w

good_of : (rest : List ℕ) (c : Command) (n : ℕ) → WritableBy old c → Sized c n → is_within c ≡ true → is_printable c ≡ true → is_over rest c ≡ true
    → Good (drop n rest) c
unfolding is_within is_printable is_over
good_of rest (new_line a indent) n w z within printable over = (fits_of a w, leb-true indent 63 within)
good_of rest (marked s) n w z within printable over = w
good_of rest (new_token t) n w z within printable over = (w.0, w.1, printable-above t.text (not-true printable))
good_of rest end n w z within printable over = ap (λ (k : ℕ). drop k rest) z ∙ empty_is (drop 1 rest) over

module _ (tape : List ℕ) (bytes : Bytes tape) where
  -- what a step gives: the command, its bytes, and the tape behind it
  record Step (at : ℕ) (a : Advance) : Type 0 where
    good : Good (drop a.next tape) a.command
    bytes_are : drop at tape ≡ write_command a.command ++ drop a.next tape
    moves : at < a.next

  step : (at : ℕ) (t : Totals) (a : Advance) → read_command tape at t ≡ Passed a → Step at a
  step at t a e =
      let p = command_passed tape at t a e in
      let rest : List ℕ = drop at tape in
      let n : ℕ = command_size rest in
      let behind : drop n rest ≡ drop (at + n) tape = drop-drop n at tape in
      let b : Bytes rest = bytes_drop at tape bytes in
      let w = writable {form = old} rest b p.0.known p.0.inside in
      let z = sized {form = old} rest p.0.known p.0.inside in
      let g = good_of rest (command_of rest) n w z p.0.within p.0.printable p.0.over in
      let same : write_command (command_of rest) ++ drop n rest ≡ rest =
      ap (λ (s : List ℕ). s ++ drop n rest) (write_of-read rest b p.0.known p.0.inside) ∙ take-append-drop n rest in
      rw p.1
      (record {
        good = subst (λ (s : List ℕ). Good s (command_of rest)) behind g;
        bytes_are = sym same ∙ ap (λ (s : List ℕ). write_command (command_of rest) ++ s) behind;
        moves = (advances tape at t p.0).0;
      })

  -- ---- from a place in a line on

  abbrev Goes : ℕ → Type 0
  Goes fuel =
      (at : ℕ) (fresh : Bool) (n : ℕ) (l : Text) (b : List ℕ) → 0 < at → Line l b → (shown_from true fuel tape at fresh).number ≡ 0
      → Reads n (l ++ (shown_from true fuel tape at fresh).text) (b ++ drop at tape)

  newline : (at : ℕ) → 0 < at → line_end at ≡ 10 ∷ []
  unfolding line_end when◌then◌else◌
  newline at h = rw (ne_eqb at 0 (λ e. omega arith))

  -- the text of a command, and what follows it
  abbrev after : ℕ → Command → Shown → Shown
  after at c more = in_front (exact_command at c) (when is_end c then record { text = []; number = 0; place = 0 } else more)

  module _ (fuel : ℕ) (goes : Goes fuel) (at next : ℕ) (fresh : Bool) (n : ℕ) (l : Text) (b : List ℕ) (pos : 0 < at) (later : at < next) (k : Line l b) where
    abbrev more : Shown
    more = shown_from true fuel tape next fresh

    turn : (c : Command) → Good (drop next tape) c → drop at tape ≡ write_command c ++ drop next tape → (after at c more).number ≡ 0
        → Reads n (l ++ (after at c more).text) (b ++ drop at tape)
    unfolding exact_command when◌then◌else◌ front_text span_field token-field lines_read ended
    turn (new_line a indent) g e z =
        let c : Command = new_line a indent in
        let r = goes next fresh (suc n) (front_text a indent) (write_command c) (omega arith) (front_line a indent g.0 g.1) z in
        reads_as n
        (ap (λ (s : Text). l ++ s) (rw (newline at pos)))
        (ap (λ (s : List ℕ). b ++ s) (sym e))
        (first_line n l b (front_text a indent ++ more.text) (write_command c ++ drop next tape) k r)
    turn (marked s) g e z =
        let c : Command = marked s in
        let f : Text = span_field s.lowest s.highest in
        let r = goes next fresh n (l ++ (9 ∷ f)) (b ++ write_command c) (omega arith)
        (longer_line l b f c (span_back s.lowest s.highest g.0 g.1) (span_above s.lowest s.highest) k) z in
        reads_as n (append_assoc l (9 ∷ f) more.text) (append_assoc b (write_command c) (drop next tape) ∙ ap (λ (s : List ℕ). b ++ s) (sym e)) r
    turn (new_token t) g e z =
        let c : Command = new_token t in
        let f : Text = token-field t.kind t.text in
        let r = goes next fresh n (l ++ (9 ∷ f)) (b ++ write_command c) (omega arith)
        (longer_line l b f c (token_back t.kind t.text g.0 g.1) (token-above t.kind t.text g.0 g.2) k) z in
        reads_as n (append_assoc l (9 ∷ f) more.text) (append_assoc b (write_command c) (drop next tape) ∙ ap (λ (s : List ℕ). b ++ s) (sym e)) r
    turn end g e z =
        reads_as n (ap (λ (s : Text). l ++ s) (sym (append-nil (line_end at) ∙ newline at pos)))
        (ap (λ (s : List ℕ). b ++ s) (sym (e ∙ ap (λ (s : List ℕ). write_command end ++ s) g ∙ append-nil (write_command end))))
        (first_line n l b [] (write_command end) k refl)

  answered : (fuel : ℕ) → Goes fuel → (at : ℕ) (fresh : Bool) (n : ℕ) (l : Text) (b : List ℕ) → 0 < at → Line l b
      → (x : Answer Advance) → read_command tape at (begun at fresh) ≡ x → (shown_at true tape at (shown_from true fuel tape) x).number ≡ 0
      → Reads n (l ++ (shown_at true tape at (shown_from true fuel tape) x).text) (b ++ drop at tape)
  unfolding shown_at
  answered fuel goes at fresh n l b pos k (Refused m p) e z = absurd (never_zero tape at (begun at fresh) e z)
  answered fuel goes at fresh n l b pos k (Passed a) e z =
      let s = step at (begun at fresh) a e in
      turn fuel goes at a.next a.totals.fresh n l b pos s.moves k a.command s.good s.bytes_are z

  goes_on : (fuel : ℕ) → Goes fuel
  unfolding shown_from
  goes_on zero at fresh n l b pos k z = absurd (omega arith)
  goes_on (suc fuel) at fresh n l b pos k z =
      answered fuel (goes_on fuel) at fresh n l b pos k (read_command tape at (begun at fresh)) refl z

  -- ---- from the first command on

  first_turn : (fuel next : ℕ) (fresh : Bool) (c : Command) → 0 < next → Good (drop next tape) c → tape ≡ write_command c ++ drop next tape
      → has_line (begun 0 false) c ≡ true → (after 0 c (shown_from true fuel tape next fresh)).number ≡ 0
      → Reads 0 (after 0 c (shown_from true fuel tape next fresh)).text tape
  unfolding exact_command line_end when◌then◌else◌ front_text has_line begun ◌and◌ lines_read ended
  first_turn fuel next fresh (new_line a indent) pos g e h z =
      reads_as 0 {s = front_text a indent ++ (shown_from true fuel tape next fresh).text} refl (sym e)
      (goes_on fuel next fresh 0 (front_text a indent) (write_command (new_line a indent)) pos (front_line a indent g.0 g.1) z)
  first_turn fuel next fresh (marked s) pos g e h z = absurd (false≢true h)
  first_turn fuel next fresh (new_token t) pos g e h z = absurd (false≢true h)
  first_turn fuel next fresh end pos g e h z =
      reads_as 0 {s = []} refl (sym (e ∙ ap (λ (s : List ℕ). write_command end ++ s) g ∙ append-nil (write_command end))) refl

  first-answered : (fuel : ℕ) (x : Answer Advance) → read_command tape 0 (begun 0 false) ≡ x → (shown_at true tape 0 (shown_from true fuel tape) x).number ≡ 0
      → Reads 0 (shown_at true tape 0 (shown_from true fuel tape) x).text tape
  unfolding shown_at
  first-answered fuel (Refused m p) e z = absurd (never_zero tape 0 (begun 0 false) e z)
  first-answered fuel (Passed a) e z =
      let p = command_passed tape 0 (begun 0 false) a e in
      let s = step 0 (begun 0 false) a e in
      let h : has_line (begun 0 false) a.command ≡ true = rw p.1 p.0.begun in
      first_turn fuel a.next a.totals.fresh a.command s.moves s.good s.bytes_are h z

  first : (fuel : ℕ) → (shown_from true fuel tape 0 false).number ≡ 0 → Reads 0 (shown_from true fuel tape 0 false).text tape
  unfolding shown_from
  first zero z = absurd (omega arith)
  first (suc fuel) z = first-answered fuel (read_command tape 0 (begun 0 false)) refl z

  -- EVERY TAPE THAT IS SHOWN WITHOUT A REFUSAL IS READ BACK
  pub read_back : (shown true tape).number ≡ 0 → ReadsBack tape
  unfolding shown tape_of
  read_back z = first (length tape) z

-- ---- accepted tapes are shown without a refusal

module _ (at : ℕ) (t : Totals) (fresh : Bool) (first : at ≡ 0 → t.lines ≡ 0) (same : t.fresh ≡ fresh) where
  begun_one : 0 < at → (begun at fresh).lines ≡ 1
  unfolding begun when◌then◌else◌
  begun_one h = rw (ne_eqb at 0 (λ e. omega arith))

  begun-few : (begun at fresh).lines ≤ 1
  unfolding begun
  begun-few = by-if (λ (n : ℕ). n ≤ 1) (λ e. omega arith) (λ e. omega arith)

  line_begun : (c : Command) → has_line t c ≡ true → has_line (begun at fresh) c ≡ true
  unfolding has_line
  line_begun (new_line a indent) h = refl
  line_begun (marked s) h = unfold begun in (rw (← same) h)
  line_begun (new_token u) h =
      by_cases (dec_lt 0 at) (λ pos. rw (begun_one pos)) (λ no. absurd (omega (arith, leb-true 1 t.lines h, first (omega arith))))
  line_begun end h = refl

  few-begun : (c : Command) → is_few (begun at fresh) c ≡ true
  unfolding is_few
  few-begun (new_line a indent) = le-leb ((begun at fresh).lines + 1) 256 (omega (arith, begun-few))
  few-begun (marked s) = refl
  few-begun (new_token u) = unfold begun in refl
  few-begun end = refl

  short-begun : (c : Command) → is_short t c ≡ true → is_short (begun at fresh) c ≡ true
  unfolding is_short begun
  short-begun (new_line a indent) h = refl
  short-begun (marked s) h = refl
  short-begun (new_token u) h = le-leb (0 + length u.text) 24576 (omega (arith, leb-true (t.text + length u.text) 24576 h))
  short-begun end h = refl

  fresh-begun : (c : Command) → is_end c ≡ false → (count_in c t).fresh ≡ (count_in c (begun at fresh)).fresh
  unfolding count_in
  fresh-begun (new_line a indent) h = refl
  fresh-begun (marked s) h = refl
  fresh-begun (new_token u) h = refl
  fresh-begun end h = absurd (true≢false h)

  passes-begun : (rest : List ℕ) → Passes rest t → Passes rest (begun at fresh)
  passes-begun rest p =
      record {
        known = p.known;
        inside = p.inside;
        begun = line_begun (command_of rest) p.begun;
        within = p.within;
        few = few-begun (command_of rest);
        short = short-begun (command_of rest) p.short;
        printable = p.printable;
        over = p.over;
      }

module _ (tape : List ℕ) where
  shows : (exact : Bool) (fuel at : ℕ) (t : Totals) (lines result : Listing) (fresh : Bool) → (at ≡ 0 → t.lines ≡ 0) → t.fresh ≡ fresh
      → read_from fuel tape at t lines ≡ Passed result → (shown_from exact fuel tape at fresh).number ≡ 0
  unfolding read_from_by shown_from shown_at when◌then◌else◌
  shows exact zero at t lines result fresh f s = λ e. absurd (refused_passed e)
  shows exact (suc fuel) at t lines result fresh f s =
      by_passed (λ (x : Answer Listing). x ≡ Passed result → (shown_from exact (suc fuel) tape at fresh).number ≡ 0)
      (λ n p u e. absurd (refused_passed e))
      (λ a known e.
      let q = command_passed tape at t a known in
      let small = passes-begun at t fresh f s (drop at tape) q.0 in
      let k = pass_command {form = old} tape at (begun at fresh) small in
      let c : Command = command_of (drop at tape) in
      let later = advances tape at t q.0 in
      by_test (is_end c) (λ y. rw (k, y))
      (λ y.
      rw (k, y)
      (shows exact fuel (at + command_size (drop at tape)) (count_in c t) (add c lines) result (count_in c (begun at fresh)).fresh (λ z. omega (arith, later))
      (fresh-begun at t fresh f s c y) (rw (q.1, y) at e))))

-- EVERY ACCEPTED TAPE IS SHOWN WHOLE, IN EITHER FORM
pub accepted-shown : (exact : Bool) (tape : List ℕ) (lines : Listing) → read tape ≡ Passed lines → (shown exact tape).number ≡ 0
unfolding shown read_by
accepted-shown exact tape lines e = shows tape exact (length tape) 0 no_commands [] lines false (λ z. refl) refl e

-- SHOW AND THEN TAPE IS THE IDENTITY ON ACCEPTED TAPES
pub accepted-read-back : (tape : List ℕ) → Bytes tape → (lines : Listing) → read tape ≡ Passed lines → ReadsBack tape
accepted-read-back tape b lines e = read_back tape b (accepted-shown true tape lines e)
