-- The commands that a listing with marks is written as: their bytes, what holds of each of them, the listing and the marks that they hold, and a listing
-- whose parts are changed. Assumes nothing.
use Prim.Native.Nat.{ℕ}
use native.Mathlib.Omega.{arith}
use mathlib.Core.Path.{◌≡◌, refl, sym, ap, ◌∙◌}
use mathlib.Core.List.{List, [], ◌∷◌, ◌++◌, map, map-append, flat_map, append_assoc, append-nil}
use mathlib.Core.Option.{Option, none, some}
use lib.ListN.{length, get_or, drop}
use Rattle.reference.specs.Listing.{Token, Line, Listing}
use Rattle.reference.specs.Spans.{Span, Marks}
use Rattle.reference.specs.Tape.{TapeForm, Command, new_line, marked, new_token, write_command_by, write_marks_by, write_line_by, write_lines_by}
use Rattle.reference.proofs.Writing.{flat_append}
use Rattle.reference.proofs.Limits.{All, all_append}
use Rattle.tape.specs.Held.{tokens_of, lines_of, mark_of, marks_of, marks_put, line_put, lines_put, command_with, line_with, marks_with}

-- ---- a function of each command, line by line

module _ {A : Type 0} (g : Command → List A) where
  tokens_flat : (ts : List Token) → flat_map g (map new_token ts) ≡ flat_map (λ t. g (new_token t)) ts
  unfolding flat_map
  tokens_flat [] = refl
  tokens_flat (t ∷ ts) = ap (λ (r : List A). g (new_token t) ++ r) (tokens_flat ts)

  pub line_flat : (l : Line) (m : Marks) → flat_map g (line_put l m)
      ≡ g (new_line l.address l.indent) ++ flat_map g (marks_put m) ++ flat_map (λ t. g (new_token t)) l.tokens
  unfolding flat_map
  line_flat l m =
      ap (λ (r : List A). g (new_line l.address l.indent) ++ r)
      (flat_append g (marks_put m) (map new_token l.tokens) ∙ ap (λ (r : List A). flat_map g (marks_put m) ++ r) (tokens_flat l.tokens))
      ∙ sym (append_assoc (g (new_line l.address l.indent)) (flat_map g (marks_put m)) (flat_map (λ t. g (new_token t)) l.tokens))

  pub lines_flat : (l : Line) (ls : Listing) (marks : List Marks)
      → flat_map g (lines_put (l ∷ ls) marks) ≡ flat_map g (line_put l (get_or marks 0 none)) ++ flat_map g (lines_put ls (drop 1 marks))
  unfolding lines_put
  lines_flat l ls marks = flat_append g (line_put l (get_or marks 0 none)) (lines_put ls (drop 1 marks))

-- ---- their bytes

module _ (form : TapeForm) where
  marks_written : (m : Marks) → flat_map (write_command_by form) (marks_put m) ≡ write_marks_by form m
  unfolding flat_map write_marks_by
  marks_written none = refl
  marks_written (some s) = append-nil (write_command_by form (marked s))

  line_written : (l : Line) (m : Marks) → flat_map (write_command_by form) (line_put l m) ≡ write_line_by form l m
  unfolding write_line_by
  line_written l m =
      line_flat (write_command_by form) l m
      ∙ ap (λ (r : List ℕ). write_command_by form (new_line l.address l.indent) ++ r ++ flat_map (λ t. write_command_by form (new_token t)) l.tokens) (marks_written m)

  -- THE BYTES OF THESE COMMANDS ARE THOSE OF THE LISTING AND ITS MARKS
  pub lines_written : (lines : Listing) (marks : List Marks) → flat_map (write_command_by form) (lines_put lines marks) ≡ write_lines_by form lines marks
  unfolding lines_put write_lines_by flat_map
  lines_written [] marks = refl
  lines_written (l ∷ ls) marks =
      lines_flat (write_command_by form) l ls marks
      ∙ λ i. line_written l (get_or marks 0 none) i ++ lines_written ls (drop 1 marks) i

-- ---- what holds of each

module _ (P : Command → Type 0) where
  abbrev pub OfLine : Line → Type 0
  OfLine l = P (new_line l.address l.indent) × All (λ t. P (new_token t)) l.tokens

  abbrev pub OfMarks : Marks → Type 0
  OfMarks none = Unit {0}
  OfMarks (some s) = P (marked s)

  all_tokens : (ts : List Token) → All (λ t. P (new_token t)) ts → All P (map new_token ts)
  all_tokens [] h = tt
  all_tokens (t ∷ ts) h = (h.0, all_tokens ts h.1)

  all_marks : (m : Marks) → OfMarks m → All P (marks_put m)
  all_marks none h = tt
  all_marks (some s) h = (h, tt)

  front : (marks : List Marks) → All OfMarks marks → OfMarks (get_or marks 0 none) × All OfMarks (drop 1 marks)
  front [] h = (tt, tt)
  front (m ∷ ms) h = (h.0, h.1)

  pub all_put : (lines : Listing) (marks : List Marks) → All OfLine lines → All OfMarks marks → All P (lines_put lines marks)
  unfolding lines_put
  all_put [] marks h k = tt
  all_put (l ∷ ls) marks h k =
      let f = front marks k in
      let m : Marks = get_or marks 0 none in
      all_append P (line_put l m) (lines_put ls (drop 1 marks))
      (h.0.0, all_append P (marks_put m) (map new_token l.tokens) (all_marks m f.0) (all_tokens l.tokens h.0.1))
      (all_put ls (drop 1 marks) h.1 f.1)

-- ---- the listing and the marks that they hold

tokens_back : (ts : List Token) (more : List Command) → tokens_of (map new_token ts ++ more) ≡ ts ++ tokens_of more
tokens_back [] more = refl
tokens_back (t ∷ ts) more = ap (λ (r : List Token). t ∷ r) (tokens_back ts more)

over_tokens : (ts : List Token) (more : List Command) → lines_of (map new_token ts ++ more) ≡ lines_of more
over_tokens [] more = refl
over_tokens (t ∷ ts) more = over_tokens ts more

tokens-behind : (m : Marks) (ts : List Token) (more : List Command) → tokens_of ((marks_put m ++ map new_token ts) ++ more) ≡ ts ++ tokens_of more
tokens-behind none ts more = tokens_back ts more
tokens-behind (some s) ts more = tokens_back ts more

lines_behind : (m : Marks) (ts : List Token) (more : List Command) → lines_of ((marks_put m ++ map new_token ts) ++ more) ≡ lines_of more
lines_behind none ts more = over_tokens ts more
lines_behind (some s) ts more = over_tokens ts more

pub no_tokens : (lines : Listing) (marks : List Marks) → tokens_of (lines_put lines marks) ≡ []
unfolding lines_put
no_tokens [] marks = refl
no_tokens (l ∷ ls) marks = refl

-- THEY HOLD THE LISTING
pub lines_back : (lines : Listing) (marks : List Marks) → lines_of (lines_put lines marks) ≡ lines
unfolding lines_put
lines_back [] marks = refl
lines_back (l ∷ ls) marks =
    let m : Marks = get_or marks 0 none in
    let more : List Command = lines_put ls (drop 1 marks) in
    let t = tokens-behind m l.tokens more ∙ ap (λ (r : List Token). l.tokens ++ r) (no_tokens ls (drop 1 marks)) ∙ append-nil l.tokens in
    let k = lines_behind m l.tokens more ∙ lines_back ls (drop 1 marks) in
    λ i. record { address = l.address; indent = l.indent; tokens = t i } ∷ k i

mark_over : (m : Marks) (ts : List Token) (more : List Command) → mark_of m (map new_token ts ++ more) ≡ mark_of m more
mark_over m [] more = refl
mark_over m (t ∷ ts) more = mark_over m ts more

marks_over : (ts : List Token) (more : List Command) → marks_of (map new_token ts ++ more) ≡ marks_of more
marks_over [] more = refl
marks_over (t ∷ ts) more = marks_over ts more

mark_behind : (m : Marks) (ts : List Token) (more : List Command) → mark_of none ((marks_put m ++ map new_token ts) ++ more) ≡ mark_of m more
mark_behind none ts more = mark_over none ts more
mark_behind (some s) ts more = mark_over (some s) ts more

marks_behind : (m : Marks) (ts : List Token) (more : List Command) → marks_of ((marks_put m ++ map new_token ts) ++ more) ≡ marks_of more
marks_behind none ts more = marks_over ts more
marks_behind (some s) ts more = marks_over ts more

no_mark : (m : Marks) (lines : Listing) (marks : List Marks) → mark_of m (lines_put lines marks) ≡ m
unfolding lines_put
no_mark m [] marks = refl
no_mark m (l ∷ ls) marks = refl

-- AND THE MARKS, one for each line
pub marks_back : (lines : Listing) (marks : List Marks) → length marks ≡ length lines → marks_of (lines_put lines marks) ≡ marks
unfolding lines_put
marks_back [] [] h = refl
marks_back [] (m ∷ ms) h = absurd (omega arith)
marks_back (l ∷ ls) [] h = absurd (omega arith)
marks_back (l ∷ ls) (m ∷ ms) h =
    let more : List Command = lines_put ls ms in
    let k = mark_behind m l.tokens more ∙ no_mark m ls ms in
    let r = marks_behind m l.tokens more ∙ marks_back ls ms (omega arith) in
    λ i. k i ∷ r i

-- ---- each command changed

module _ (on_address : Option ℕ → Option ℕ) (on_span : Span → Span) (on_token : Token → Token) where
  abbrev with : Command → Command
  with = command_with on_address on_span on_token

  changed-tokens : (ts : List Token) → map with (map new_token ts) ≡ map new_token (map on_token ts)
  changed-tokens [] = refl
  changed-tokens (t ∷ ts) = ap (λ (r : List Command). new_token (on_token t) ∷ r) (changed-tokens ts)

  abbrev their_marks : Marks → Marks
  their_marks = marks_with on_address on_span on_token

  changed-marks : (m : Marks) → map with (marks_put m) ≡ marks_put (their_marks m)
  changed-marks none = refl
  changed-marks (some s) = refl

  abbrev its_line : Line → Line
  its_line = line_with on_address on_span on_token

  changed-line : (l : Line) (m : Marks) → map with (line_put l m) ≡ line_put (its_line l) (their_marks m)
  changed-line l m =
      ap (λ (r : List Command). new_line (on_address l.address) l.indent ∷ r)
      (map-append with (marks_put m) (map new_token l.tokens) ∙ λ i. changed-marks m i ++ changed-tokens l.tokens i)

  first_marks : (marks : List Marks) → their_marks (get_or marks 0 none) ≡ get_or (map their_marks marks) 0 none
  first_marks [] = refl
  first_marks (m ∷ ms) = refl

  later_marks : (marks : List Marks) → map their_marks (drop 1 marks) ≡ drop 1 (map their_marks marks)
  later_marks [] = refl
  later_marks (m ∷ ms) = refl

  -- CHANGED COMMAND BY COMMAND, THEY ARE THOSE OF THE CHANGED LISTING AND MARKS
  pub changed : (lines : Listing) (marks : List Marks) → map with (lines_put lines marks) ≡ lines_put (map its_line lines) (map their_marks marks)
  unfolding lines_put
  changed [] marks = refl
  changed (l ∷ ls) marks =
      map-append with (line_put l (get_or marks 0 none)) (lines_put ls (drop 1 marks))
      ∙ λ i.
      (changed-line l (get_or marks 0 none) ∙ ap (line_put (its_line l)) (first_marks marks)) i
      ++ (changed ls (drop 1 marks) ∙ ap (lines_put (map its_line ls)) (later_marks marks)) i

  flat_of-map : (g : Command → List ℕ) (cs : List Command) → flat_map g (map with cs) ≡ flat_map (λ c. g (with c)) cs
  unfolding flat_map
  flat_of-map g [] = refl
  flat_of-map g (c ∷ cs) = ap (λ (r : List ℕ). g (with c) ++ r) (flat_of-map g cs)

  -- and so written, in either form
  pub changed-written : (form : TapeForm) (lines : Listing) (marks : List Marks)
      → flat_map (λ c. write_command_by form (with c)) (lines_put lines marks) ≡ write_lines_by form (map its_line lines) (map their_marks marks)
  changed-written form lines marks =
      sym (flat_of-map (write_command_by form) (lines_put lines marks))
      ∙ ap (flat_map (write_command_by form)) (changed lines marks)
      ∙ lines_written form (map its_line lines) (map their_marks marks)
