-- What is written reads back: the tape of a listing within the limits and of marks is accepted, and holds that listing and those marks. Assumes nothing.
use Prim.Native.Nat.{ℕ, suc, ◌+◌, ◌≤◌}
use native.Mathlib.Omega.{arith}
use native.Mathlib.Nat.{zero-add, suc-add, add_assoc}
use mathlib.Core.Path.{◌≡◌, refl, sym, ap, ◌∙◌}
use mathlib.Core.Bool.{Bool, true, false, true≢false}
use mathlib.Core.List.{List, [], ◌∷◌, ◌++◌, flat_map, append_assoc, append-nil}
use mathlib.Core.Option.{Option, none, some}
use lib.ListN.{length, drop, length-append}
use lib.Seq.{drop-drop, drop-append_seam, append_snoc}
use borrow.Author.Tests.{le-leb}
use Rattle.reference.specs.Control.{not, ◌or◌}
use Rattle.reference.specs.Listing.{Token, Line, Listing, with_tokens}
use Rattle.reference.specs.Spans.{Marks}
use Rattle.reference.specs.Tape.{TapeForm, old, header, Command, new_line, marked, new_token, end, write_command_by, write_marks_by, write_line_by, write_lines_by, write_by, write, command_size_by}
use Rattle.reference.specs.Questions.{Totals, has_line, is_within, is_few, is_short, is_printable, is_over, Passed, count_in, is_end, add, read_by, read, add_marks, marks_in_by, marks_in}
use Rattle.reference.specs.Claim.{size, token_count, text_in, text}
use Rattle.reference.proofs.Cases.{pair}
use Rattle.reference.proofs.Commands.{AddressFitsBy, WritableBy, read_of-write, form_of}
use Rattle.reference.proofs.Reading.{PassesBy, State, start_by, left, after_by, ReachedBy, here, on, AcceptsBy, accepted, marks-read}
use Rattle.reference.proofs.Writing.{with_token, add-last, mark-last}
use Rattle.reference.proofs.Limits.{All, TokenFits, LineFits, MarksFitBy, MarksFit, TapeFitsBy, TapeFits}
use Rattle.reference.proofs.Tapes.{totals-so_far}

-- ---- tests that pass

implied : (a b : Bool) → (a ≡ true → b ≡ true) → (not a or b) ≡ true
unfolding not ◌or◌
implied true b h = h refl
implied false b h = refl

flip-false : {a : Bool} → a ≡ false → not a ≡ true
unfolding not
flip-false e = rw e

no_end-over : (rest : List ℕ) (c : Command) → is_end c ≡ false → is_over rest c ≡ true
unfolding is_over
no_end-over rest (new_line address indent) n = refl
no_end-over rest (marked s) n = refl
no_end-over rest (new_token t) n = refl
no_end-over rest end n = absurd (true≢false n)

-- a command that was written passes
passes : (form : TapeForm) (c : Command) (post : List ℕ) (t : Totals) → WritableBy form c → has_line t c ≡ true → is_within c ≡ true → is_few t c ≡ true
    → is_short t c ≡ true → is_printable c ≡ true → is_over (write_command_by form c ++ post) c ≡ true → PassesBy form (write_command_by form c ++ post) t
passes form c post t w begun within few short printable over =
    let b = read_of-write {form = form} c post w in
    record {
      known = form_of _ b.known;
      inside = rw (b.size, length-append (write_command_by form c) post) (omega arith);
      begun = rw b.same begun;
      within = rw b.same within;
      few = rw b.same few;
      short = rw b.same short;
      printable = rw b.same printable;
      over = rw b.same over;
    }

-- ---- from place to place

module _ (form : TapeForm) (tape : List ℕ) where
  -- a place where the lines `read` and their marks are read, `post` is left, and there is room for m lines, n tokens and k bytes of text
  record To (post : List ℕ) (read : Listing) (marks : List Marks) (m n k : ℕ) : Type 0 where
    state : State
    reached : ReachedBy form tape state
    rest : left tape state ≡ post
    lines : state.lines ≡ read
    marks_are : state.marks ≡ marks
    line_room : state.totals.lines + m ≤ 256
    token_room : state.totals.tokens + n ≤ 1024
    text_room : state.totals.text + k ≤ 24576

  over-command : (c : Command) (post : List ℕ) (s : State) → ReachedBy form tape s → left tape s ≡ write_command_by form c ++ post → WritableBy form c
      → has_line s.totals c ≡ true → is_within c ≡ true → is_few s.totals c ≡ true → is_short s.totals c ≡ true → is_printable c ≡ true → is_end c ≡ false
      → (s' : State) × ReachedBy form tape s' × (left tape s' ≡ post) × (s'.lines ≡ add c s.lines) × (s'.totals ≡ count_in c s.totals)
      × (s'.marks ≡ add_marks c s.marks)
  over-command c post s r e w begun within few short printable n =
      let b = read_of-write {form = form} c post w in
      let p = passes form c post s.totals w begun within few short printable (no_end-over _ c n) in (
        after_by form tape s,
        on r (rw e p) (rw (e, b.same) n),
        sym (drop-drop (command_size_by form (left tape s)) s.at tape)
            ∙ rw (e, b.size, drop-append_seam (write_command_by form c) post),
        rw (e, b.same),
        rw (e, b.same),
        rw (e, b.same),
      )

  over_line : (address : Option ℕ) (indent : ℕ) (post : List ℕ) (read : Listing) (marks : List Marks) (m n k : ℕ) → AddressFitsBy form address → indent ≤ 63
      → To (write_command_by form (new_line address indent) ++ post) read marks (suc m) n k
      → (to : To post (read ++ (record { address = address; indent = indent; tokens = [] } ∷ [])) (marks ++ (none ∷ [])) m n k) × (to.state.totals.fresh ≡ true)
  unfolding has_line is_within is_few is_short is_printable count_in add add_marks
  over_line address indent post read marks m n k a i to =
      let t = to.state.totals in
      let r = over-command (new_line address indent) post to.state to.reached to.rest a refl
      (le-leb _ _ i) (le-leb (t.lines + 1) 256 (omega (arith, to.line_room))) refl refl refl in (
        record {
          state = r.0;
          reached = r.1;
          rest = r.2;
          lines = r.3 ∙ rw to.lines;
          marks_are = r.5 ∙ rw to.marks_are;
          line_room = rw r.4 (omega (arith, to.line_room));
          token_room = rw r.4 to.token_room;
          text_room = rw r.4 to.text_room;
        },
        ap (λ (t : Totals). t.fresh) r.4,
      )

  -- the marks directly behind a line's command
  over-marks : (mark : Marks) (post : List ℕ) (read : Listing) (marks : List Marks) (m n k : ℕ) → MarksFitBy form mark
      → (to : To (write_marks_by form mark ++ post) read (marks ++ (none ∷ [])) m n k) → to.state.totals.fresh ≡ true
      → To post read (marks ++ (mark ∷ [])) m n k
  unfolding write_marks_by has_line is_within is_few is_short is_printable count_in add
  over-marks none post read marks m n k f to fresh = to
  over-marks (some s) post read marks m n k f to fresh =
      let r = over-command (marked s) post to.state to.reached to.rest f.0 (pair fresh (le-leb _ _ f.1)) refl refl refl refl refl in
      record {
        state = r.0;
        reached = r.1;
        rest = r.2;
        lines = r.3 ∙ to.lines;
        marks_are = r.5 ∙ rw to.marks_are (mark-last s marks none);
        line_room = rw r.4 to.line_room;
        token_room = rw r.4 to.token_room;
        text_room = rw r.4 to.text_room;
      }

  over-token : (u : Token) (post : List ℕ) (init : Listing) (l : Line) (marks : List Marks) (m n k : ℕ) → TokenFits u
      → To (write_command_by form (new_token u) ++ post) (init ++ (l ∷ [])) marks m (suc n) (size u + k)
      → To post (init ++ (with_token u l ∷ [])) marks m n k
  unfolding has_line is_within is_few is_short is_printable count_in add_marks
  over-token u post init l marks m n k f to =
      let t = to.state.totals in
      let begun : 1 ≤ t.lines = omega (arith, ap (λ (t : Totals). t.lines) (totals-so_far tape to.reached), ap length to.lines, length-append init (l ∷ [])) in
      let r = over-command (new_token u) post to.state to.reached to.rest (f.kind, omega (arith, to.text_room)) (le-leb _ _ begun)
      (pair (le-leb _ _ f.some_text) (implied _ _ (λ e. le-leb _ _ (f.number e))))
      (le-leb (t.tokens + 1) 1024 (omega (arith, to.token_room)))
      (le-leb (t.text + length u.text) 24576 (omega (arith, to.text_room)))
      (flip-false f.printable) refl in
      record {
        state = r.0;
        reached = r.1;
        rest = r.2;
        lines = r.3 ∙ rw to.lines (add-last u init l);
        marks_are = r.5 ∙ to.marks_are;
        line_room = rw r.4 to.line_room;
        token_room = rw r.4 (omega (arith, to.token_room));
        text_room = rw r.4 (omega (arith, to.text_room));
      }

  over-tokens : (ts : List Token) (post : List ℕ) (init : Listing) (l : Line) (marks : List Marks) (m n k : ℕ) → All TokenFits ts
      → To (flat_map (λ t. write_command_by form (new_token t)) ts ++ post) (init ++ (l ∷ [])) marks m (length ts + n) (text_in ts + k)
      → To post (init ++ (with_tokens (l.tokens ++ ts) l ∷ [])) marks m n k
  unfolding flat_map
  over-tokens [] post init l marks m n k f to = rw append-nil (rw (zero-add n, zero-add k) at to)
  over-tokens (u ∷ ts) post init l marks m n k f to =
      let rest : List ℕ = flat_map (λ t. write_command_by form (new_token t)) ts ++ post in
      let first = rw (append_assoc (write_command_by form (new_token u)) _ post, suc-add (length ts) n, add_assoc (size u) (text_in ts) k) at to in
      let more = over-tokens ts post init (with_token u l) marks m n k f.1 (over-token u rest init l marks m (length ts + n) (text_in ts + k) f.0 first) in
      rw (append_snoc l.tokens u ts) at more

  over-whole_line : (l : Line) (mark : Marks) (post : List ℕ) (lines : Listing) (marks : List Marks) (m n k : ℕ) → LineFits l → AddressFitsBy form l.address → MarksFitBy form mark
      → To (write_line_by form l mark ++ post) lines marks (suc m) (length l.tokens + n) (text_in l.tokens + k)
      → To post (lines ++ (l ∷ [])) (marks ++ (mark ∷ [])) m n k
  unfolding write_line_by
  over-whole_line l mark post lines marks m n k f a g to =
      let tokens : List ℕ = flat_map (λ t. write_command_by form (new_token t)) l.tokens ++ post in
      let first = over_line l.address l.indent (write_marks_by form mark ++ tokens) lines marks m _ _ a f.indent (simp append_assoc at to) in
      let second = over-marks mark tokens _ marks m _ _ g first.0 first.1 in
      over-tokens l.tokens post lines _ (marks ++ (mark ∷ [])) m n k f.tokens second

  -- the same place, with what is left, the lines and the marks in other words
  same_place : {post post' : List ℕ} {lines lines' : Listing} {marks marks' : List Marks} {m n k : ℕ} → post ≡ post' → lines ≡ lines' → marks ≡ marks'
      → To post lines marks m n k → To post' lines' marks' m n k
  same_place p l q to =
      record {
        state = to.state;
        reached = to.reached;
        rest = to.rest ∙ p;
        lines = to.lines ∙ l;
        marks_are = to.marks_are ∙ q;
        line_room = to.line_room;
        token_room = to.token_room;
        text_room = to.text_room;
      }

  over-lines : (ls : Listing) (ms : List Marks) (post : List ℕ) (lines : Listing) (marks : List Marks) → length ms ≡ length ls → All LineFits ls
      → All (λ l. AddressFitsBy form l.address) ls → All (MarksFitBy form) ms
      → To (write_lines_by form ls ms ++ post) lines marks (length ls) (token_count ls) (text ls) → To post (lines ++ ls) (marks ++ ms) 0 0 0
  unfolding write_lines_by
  over-lines [] [] post lines marks e f a g to = same_place refl (sym (append-nil lines)) (sym (append-nil marks)) to
  over-lines [] (m ∷ ms) post lines marks e f a g to = absurd (omega arith)
  over-lines (l ∷ ls) [] post lines marks e f a g to = absurd (omega arith)
  over-lines (l ∷ ls) (m ∷ ms) post lines marks e f a g to =
      let line = over-whole_line l m (write_lines_by form ls ms ++ post) lines marks (length ls) (token_count ls) (text ls) f.0 a.0 g.0
      (same_place (append_assoc (write_line_by form l m) (write_lines_by form ls ms) post) refl refl to) in
      let more = over-lines ls ms post (lines ++ (l ∷ [])) (marks ++ (m ∷ [])) (omega arith) f.1 a.1 g.1 line in
      same_place refl (append_snoc lines l ls) (append_snoc marks m ms) more

-- WHAT IS WRITTEN READS BACK, the listing and the marks, after whatever stands before the first command
pub read-write_by : (form : TapeForm) (front : List ℕ) (lines : Listing) (marks : List Marks) → length front ≡ header form → TapeFitsBy form lines → All (MarksFitBy form) marks
    → length marks ≡ length lines
    → (read_by form (front ++ write_by form lines marks) ≡ Passed lines) × (marks_in_by form (front ++ write_by form lines marks) ≡ marks)
unfolding write_by write_command_by has_line is_within is_few is_short is_printable is_over
read-write_by form front lines marks n f g e =
    let tape : List ℕ = front ++ write_by form lines marks in
    let from : drop (header form) tape ≡ write_by form lines marks = rw (← n) (drop-append_seam front (write_by form lines marks)) in
    let to = over-lines form tape lines marks (write_command_by form end) [] [] e f.limits.each f.addresses g
    (record {
      state = start_by form;
      reached = here;
      rest = from;
      lines = refl;
      marks_are = refl;
      line_room = omega (arith, f.limits.few_lines);
      token_room = omega (arith, f.limits.few_tokens);
      text_room = omega (arith, f.limits.short_text);
    }) in
    let w = read_of-write {form = form} end [] tt in
    let a : AcceptsBy form tape lines =
    record {
      state = to.state;
      reached = to.reached;
      passes = rw to.rest (passes form end [] to.state.totals tt refl refl refl refl refl refl);
      ends = rw (to.rest, w.same);
      listing = to.lines;
    } in
    (accepted tape lines a, marks-read tape lines a ∙ to.marks_are)

-- WHAT IS WRITTEN READS BACK, the listing and the marks
pub read-write : (lines : Listing) (marks : List Marks) → TapeFits lines → All MarksFit marks → length marks ≡ length lines
    → (read (write lines marks) ≡ Passed lines) × (marks_in (write lines marks) ≡ marks)
read-write lines marks = read-write_by old [] lines marks refl
