-- Writing a listing: one line, mark or token more, and how long the tape is. Assumes nothing.
use Prim.Native.Nat.{ℕ, pred, ◌+◌, ◌*◌, ◌≤◌}
use native.Mathlib.Omega.{arith}
use mathlib.Core.Path.{◌≡◌, refl, sym, ap, ◌∙◌}
use mathlib.Core.List.{List, [], ◌∷◌, ◌++◌, flat_map, append_assoc, append-nil}
use mathlib.Core.Option.{Option, none, some}
use lib.ListN.{length, get_or, drop, length-append}
use Rattle.reference.specs.Lists.{modify}
use Rattle.reference.specs.Listing.{Token, Line, Listing, with_tokens}
use Rattle.reference.specs.Spans.{Span, Marks}
use Rattle.reference.specs.Tape.{TapeForm, old, width, to_le_bytes, new_line, marked, new_token, write_command_by, write_marks_by, write_line_by, write_lines_by, write_by, write}
use Rattle.reference.specs.Questions.{add, add_marks}
use Rattle.reference.specs.Claim.{token_count, text_in, text}
use Rattle.reference.proofs.LittleEndian.{to_length}
use Rattle.reference.proofs.Commands.{widths}

-- a line with one token more
abbrev pub with_token : Token → Line → Line
with_token t l = with_tokens (l.tokens ++ (t ∷ [])) l

pub flat_append {ℓ} : {A B : Type ℓ} (f : A → List B) (xs ys : List A) → flat_map f (xs ++ ys) ≡ flat_map f xs ++ flat_map f ys
unfolding flat_map
flat_append f [] ys = refl
flat_append f (x ∷ xs) ys = rw (flat_append f xs ys) (sym (append_assoc (f x) (flat_map f xs) (flat_map f ys)))

module _ {A : Type 0} where
  pub last-split : (xs : List A) → 1 ≤ length xs → (init : List A) × (x : A) × (xs ≡ init ++ (x ∷ []))
  last-split [] h = absurd (omega arith)
  last-split (x ∷ []) h = ([], x, refl)
  last-split (x ∷ y ∷ rest) h = let r = last-split (y ∷ rest) (omega arith) in (x ∷ r.0, r.1, ap {B = List A} (λ k. x ∷ k) r.2)

  pub modify-last : (g : A → A) (init : List A) (x : A) → modify (pred (length (init ++ (x ∷ [])))) g (init ++ (x ∷ [])) ≡ init ++ (g x ∷ [])
  modify-last g init x =
      let e : pred (length (init ++ (x ∷ []))) ≡ length init = rw length-append (omega arith) in
      rw e (go init)
    where
      go : (init : List A) → modify (length init) g (init ++ (x ∷ [])) ≡ init ++ (g x ∷ [])
      go [] = refl
      go (y ∷ init) = ap {B = List A} (λ k. y ∷ k) (go init)

pub add-last : (t : Token) (init : Listing) (l : Line) → add (new_token t) (init ++ (l ∷ [])) ≡ init ++ (with_token t l ∷ [])
unfolding add
add-last t init l = modify-last (with_token t) init l

pub mark-last : (s : Span) (init : List Marks) (m : Marks) → add_marks (marked s) (init ++ (m ∷ [])) ≡ init ++ (some s ∷ [])
unfolding add_marks
mark-last s init m = modify-last (λ m. some s) init m

-- a line that has just begun: no token stands in it, and no mark behind it
pub record Fresh (lines : Listing) (marks : List Marks) : Type 0 where
  pub above : Listing
  pub last : Line
  pub marks_above : List Marks
  pub lines_are : lines ≡ above ++ (last ∷ [])
  pub no_tokens : last.tokens ≡ []
  pub marks_are : marks ≡ marks_above ++ (none ∷ [])
  pub same : length marks_above ≡ length above

-- ---- one line more, with its marks

module _ (form : TapeForm) where
  pub write-lines_snoc : (lines : Listing) (marks : List Marks) (l : Line) (m : Marks) → length marks ≡ length lines
      → write_lines_by form (lines ++ (l ∷ [])) (marks ++ (m ∷ [])) ≡ write_lines_by form lines marks ++ write_line_by form l m
  unfolding write_lines_by
  write-lines_snoc [] [] l m e = append-nil (write_line_by form l m)
  write-lines_snoc [] (n ∷ marks) l m e = absurd (omega arith)
  write-lines_snoc (x ∷ lines) [] l m e = absurd (omega arith)
  write-lines_snoc (x ∷ lines) (n ∷ marks) l m e = rw (write-lines_snoc lines marks l m (omega arith))
      (sym (append_assoc (write_line_by form x n) (write_lines_by form lines marks) (write_line_by form l m)))

  pub write_line_snoc : (t : Token) (l : Line) (m : Marks) → write_line_by form (with_token t l) m ≡ write_line_by form l m ++ write_command_by form (new_token t)
  unfolding write_line_by flat_map
  write_line_snoc t l m = rw (flat_append (λ t. write_command_by form (new_token t)) l.tokens (t ∷ []), append-nil (write_command_by form (new_token t))) (simp append_assoc)

  -- a line without tokens is marked by a command behind it
  write_line-marked : (s : Span) (l : Line) → l.tokens ≡ [] → write_line_by form l (some s) ≡ write_line_by form l none ++ write_command_by form (marked s)
  unfolding write_line_by write_marks_by flat_map
  write_line-marked s l e = rw e (simp append-nil)

  module _ (lines : Listing) (marks : List Marks) (same : length marks ≡ length lines) where
    pub write-new_line : (address : Option ℕ) (indent : ℕ)
        → write_lines_by form (add (new_line address indent) lines) (add_marks (new_line address indent) marks) ≡ write_lines_by form lines marks ++ write_command_by form (new_line address indent)
    unfolding add add_marks write_line_by write_marks_by flat_map
    write-new_line address indent =
        write-lines_snoc lines marks _ none same ∙ rw (append-nil (write_command_by form (new_line address indent)), append-nil (write_command_by form (new_line address indent)))

    pub write-new_token : (t : Token) → 1 ≤ length lines
        → write_lines_by form (add (new_token t) lines) (add_marks (new_token t) marks) ≡ write_lines_by form lines marks ++ write_command_by form (new_token t)
    unfolding add_marks
    write-new_token t h =
        let r = last-split lines h in
        let m = last-split marks (omega arith) in
        let inits : length m.0 ≡ length r.0 =
        omega (arith, ap length r.2, ap length m.2, length-append r.0 (r.1 ∷ []), length-append m.0 (m.1 ∷ [])) in
        rw (r.2, m.2, add-last t r.0 r.1, write-lines_snoc r.0 m.0 (with_token t r.1) m.1 inits, write-lines_snoc r.0 m.0 r.1 m.1 inits, write_line_snoc t r.1 m.1)
        (simp append_assoc)

  pub write_new-marks : (s : Span) (lines : Listing) (marks : List Marks) → Fresh lines marks
      → write_lines_by form (add (marked s) lines) (add_marks (marked s) marks) ≡ write_lines_by form lines marks ++ write_command_by form (marked s)
  unfolding add
  write_new-marks s lines marks f =
      rw (
        f.lines_are,
        f.marks_are,
        mark-last s f.marks_above none,
        write-lines_snoc f.above f.marks_above f.last (some s) f.same,
        write-lines_snoc f.above f.marks_above f.last none f.same,
        write_line-marked s f.last f.no_tokens,
      )
      (simp append_assoc)

  -- ---- how long a tape is

  line_command-length : (address : Option ℕ) (indent : ℕ) → length (write_command_by form (new_line address indent)) ≤ 10
  unfolding write_command_by
  line_command-length none indent = omega arith
  line_command-length (some address) indent = rw (length-append (to_le_bytes (width form) address) (indent ∷ []), to_length (width form) address) (omega (arith, widths form))

  tokens-length : (ts : List Token) → length (flat_map (λ t. write_command_by form (new_token t)) ts) ≡ text_in ts + 3 * length ts
  unfolding flat_map write_command_by
  tokens-length [] = refl
  tokens-length (t ∷ ts) = simp (length-append, to_length) (omega (arith, tokens-length ts))

  marks-length : (m : Marks) → length (write_marks_by form m) ≤ 17
  unfolding write_marks_by write_command_by
  marks-length none = omega arith
  marks-length (some s) = rw (length-append (to_le_bytes (width form) s.lowest) (to_le_bytes (width form) s.highest), to_length (width form) s.lowest, to_length (width form) s.highest)
      (omega (arith, widths form))

  line_length : (l : Line) (m : Marks) → length (write_line_by form l m) ≤ text_in l.tokens + 3 * length l.tokens + 27
  unfolding write_line_by
  line_length l m = simp length-append (omega (arith, line_command-length l.address l.indent, marks-length m, tokens-length l.tokens))

  lines-length : (lines : Listing) (marks : List Marks) → length (write_lines_by form lines marks) ≤ text lines + 3 * token_count lines + 27 * length lines
  unfolding write_lines_by
  lines-length [] marks = omega arith
  lines-length (l ∷ ls) marks = rw length-append (omega (arith, line_length l (get_or marks 0 none), lines-length ls (drop 1 marks)))

  pub write-length_by : (lines : Listing) (marks : List Marks) → length (write_by form lines marks) ≤ text lines + 3 * token_count lines + 27 * length lines + 1
  unfolding write_by write_command_by
  write-length_by lines marks = omega (arith, length-append (write_lines_by form lines marks) (0xFF ∷ []), lines-length lines marks)

pub write-length : (lines : Listing) (marks : List Marks) → length (write lines marks) ≤ text lines + 3 * token_count lines + 27 * length lines + 1
write-length = write-length_by old
