-- The walk over a tape, command by command: the flags so far are those of the marks so far. Assumes nothing.
use Prim.Native.Nat.{ℕ, zero, suc, pred, ◌+◌, ◌-◌, ◌≤◌, ◌<◌}
use native.Mathlib.Omega.{arith}
use mathlib.Core.Path.{◌≡◌, refl, sym, ap, ◌∙◌}
use mathlib.Core.Bool.{Bool, true, false}
use mathlib.Core.List.{List, [], ◌∷◌, ◌++◌, map, map-append}
use mathlib.Core.Option.{none, some}
use lib.Dec.{eqb}
use lib.ListN.{length, drop, set, length-map, length-set}
use lib.Seq.{append_snoc, set-append_left}
use borrow.Author.Tests.{eq-eqb, ne_eqb}
use Rattle.reference.specs.Control.{when◌then◌else◌}
use Rattle.reference.specs.Lists.{modify}
use Rattle.reference.specs.Spans.{Span, Marks}
use Rattle.reference.specs.Tape as Tape
use Rattle.reference.specs.Questions.{add_marks}
use Rattle.reference.proofs.Writing.{mark-last}
use Rattle.laws.proofs.Scans.{if-true, if-false}
use Rattle.tape.specs.Bytes.{Puts}
use Rattle.tape.proofs.little_endian.Bytes.{put_front, put_none, put_one, puts_append}
use Rattle.tape.specs.Held.{commands, held, lines_of, mark_of, marks_of}
use Rattle.tape.proofs.walk.Loops.{folded, Folding, folding_begins, folding_on}
use Rattle.sources.specs.Calls.{flag_of, marked_last, flags_after, lines_after, FlagFits, Flags}

-- ---- the marks of commands

abbrev one_more : List Marks → Tape.Command → List Marks
one_more ms c = add_marks c ms

abbrev marked_by : List Marks → List Tape.Command → List Marks
marked_by = folded one_more

marks_on : (cs : List Tape.Command) (ms : List Marks) (m : Marks) → marked_by (ms ++ (m ∷ [])) cs ≡ ms ++ (mark_of m cs ∷ marks_of cs)
unfolding add_marks
marks_on [] ms m = refl
marks_on (Tape.new_line address indent ∷ cs) ms m = marks_on cs (ms ++ (m ∷ [])) none ∙ append_snoc ms m (mark_of none cs ∷ marks_of cs)
marks_on (Tape.marked s ∷ cs) ms m = ap (λ (l : List Marks). marked_by l cs) (mark-last s ms m) ∙ marks_on cs ms (some s)
marks_on (Tape.new_token t ∷ cs) ms m = marks_on cs ms m
marks_on (Tape.end ∷ cs) ms m = marks_on cs ms m

-- ADDED ONE AFTER THE OTHER, THEY ARE THE MARKS OF THE LINES THAT THE COMMANDS BEGIN
marks_are : (cs : List Tape.Command) → marked_by [] cs ≡ marks_of cs
unfolding add_marks
marks_are [] = refl
marks_are (Tape.new_line address indent ∷ cs) = marks_on cs [] none
marks_are (Tape.marked s ∷ cs) = marks_are cs
marks_are (Tape.new_token t ∷ cs) = marks_are cs
marks_are (Tape.end ∷ cs) = marks_are cs

-- ---- one command more

modified_flags : (s : Span) (i : ℕ) (ms : List Marks) → map flag_of (modify i (λ m. some s) ms) ≡ set (map flag_of ms) i 1
unfolding flag_of when◌then◌else◌
modified_flags s i [] = refl
modified_flags s zero (m ∷ ms) = refl
modified_flags s (suc i) (m ∷ ms) = ap (λ (r : List ℕ). flag_of m ∷ r) (modified_flags s i ms)

module _ {flags₀ flags : List ℕ} {n : ℕ} (ms : List Marks) (p : Puts flags₀ 0 (map flag_of ms) flags n) where
  line_put : n < length flags → Puts flags₀ 0 (map flag_of (ms ++ (none ∷ []))) (set flags n 0) (n + 1)
  unfolding flag_of when◌then◌else◌
  line_put h =
      rw (map-append flag_of ms (none ∷ []))
      (puts_append flags₀ 0 (map flag_of ms) (0 ∷ []) (omega arith) p (record { holds = put_one flags n 0 h; ends = refl }))

  marks-put : (s : Span) → Puts flags₀ 0 (map flag_of (modify (pred (length ms)) (λ m. some s) ms)) (marked_last n flags) n
  unfolding marked_last
  marks-put s = go ms p
    where
      go : (ms : List Marks) → Puts flags₀ 0 (map flag_of ms) flags n → Puts flags₀ 0 (map flag_of (modify (pred (length ms)) (λ m. some s) ms)) (marked_last n flags) n
      go [] q = rw (if-true flags (set flags (n - 1) 1) (eq-eqb n 0 (omega (arith, q.ends)))) q
      go (m ∷ ms) q =
          let all : List Marks = m ∷ ms in
          let fs : List ℕ = map flag_of all in
          let long : length fs ≡ suc (length ms) = length-map all flag_of in
          let place : n - 1 ≡ pred (length all) = omega (arith, q.ends, long) in
          let short : pred (length all) < length fs = omega (arith, long) in
          rw (modified_flags s (pred (length all)) all, if-false flags (set flags (n - 1) 1) (ne_eqb n 0 (λ z. omega (arith, q.ends, long))), place)
          (record {
            holds =
                ap (λ (l : List ℕ). set l (pred (length all)) 1) (q.holds ∙ put_front flags₀ fs)
                ∙ set-append_left fs (drop (length fs) flags₀) (pred (length all)) 1 short
                ∙ ap (λ (j : ℕ). set fs (pred (length all)) 1 ++ drop j flags₀) (sym (length-set fs (pred (length all)) 1))
                ∙ sym (put_front flags₀ (set fs (pred (length all)) 1));
            ends = omega (arith, q.ends, length-set fs (pred (length all)) 1);
          })

  pub command-put : (c : Tape.Command) → FlagFits c n flags
      → Puts flags₀ 0 (map flag_of (add_marks c ms)) (flags_after c n flags) (lines_after c n)
  unfolding add_marks
  command-put (Tape.new_line address indent) h = line_put h
  command-put (Tape.marked s) h = marks-put s
  command-put (Tape.new_token t) h = p
  command-put Tape.end h = p

after-length : (c : Tape.Command) (n : ℕ) (flags : List ℕ) → length (flags_after c n flags) ≡ length flags
unfolding marked_last when◌then◌else◌
after-length (Tape.new_line address indent) n flags = length-set flags n 0
after-length (Tape.marked s) n flags = go (eqb n 0)
  where
    go : (b : Bool) → length (when b then flags else set flags (n - 1) 1) ≡ length flags
    go true = refl
    go false = length-set flags (n - 1) 1
after-length (Tape.new_token t) n flags = refl
after-length Tape.end n flags = refl

-- ---- the walk

-- how many lines have begun, and how many are to come
pub lines_left : (c : Tape.Command) (cs : List Tape.Command) (n : ℕ) → lines_after c n + length (lines_of cs) ≡ n + length (lines_of (c ∷ cs))
lines_left (Tape.new_line address indent) cs n = omega arith
lines_left (Tape.marked s) cs n = refl
lines_left (Tape.new_token t) cs n = refl
lines_left Tape.end cs n = refl

-- n lines have begun, and these commands are to come
pub record Walking (tape flags₀ : List ℕ) (coming : List Tape.Command) (n : ℕ) (flags : List ℕ) : Type 0 where
  pub marks : List Marks
  pub fold : Folding one_more [] (commands tape) marks coming
  pub puts : Puts flags₀ 0 (map flag_of marks) flags n
  pub room : n + length (lines_of coming) ≤ length flags

pub walk_begins : (tape flags : List ℕ) → length (held tape) ≤ length flags → Walking tape flags (commands tape) 0 flags
walk_begins tape flags h =
    record {
      marks = [];
      fold = folding_begins one_more [] (commands tape);
      puts = record { holds = sym (put_none flags 0); ends = refl };
      room = omega (arith, h);
    }

pub walk_ends : {tape flags₀ : List ℕ} {n : ℕ} {flags : List ℕ} → Walking tape flags₀ [] n flags
    → Puts flags₀ 0 (map flag_of (marks_of (commands tape))) flags n
walk_ends {tape} w = rw (sym (marks_are (commands tape)), sym w.fold.same) w.puts

flag_fits : (c : Tape.Command) (cs : List Tape.Command) (n : ℕ) (flags : List ℕ) → n + length (lines_of (c ∷ cs)) ≤ length flags → FlagFits c n flags
flag_fits (Tape.new_line address indent) cs n flags h = omega arith
flag_fits (Tape.marked s) cs n flags h = omega arith
flag_fits (Tape.new_token t) cs n flags h = tt
flag_fits Tape.end cs n flags h = tt

module _ {tape flags₀ : List ℕ} {c : Tape.Command} {cs : List Tape.Command} {n : ℕ} {flags : List ℕ} (w : Walking tape flags₀ (c ∷ cs) n flags) where
  pub walk-fits : FlagFits c n flags
  walk-fits = flag_fits c cs n flags w.room

  pub walk-on : {flags' : List ℕ} {n' : ℕ} → Flags c n flags flags' n' → Walking tape flags₀ cs n' flags'
  walk-on f =
      record {
        marks = add_marks c w.marks;
        fold = folding_on one_more w.fold c refl refl;
        puts = rw (f.flags_are, f.lines_are) (command-put w.marks w.puts c walk-fits);
        room = rw (f.flags_are, f.lines_are) (omega (arith, lines_left c cs n, after-length c n flags, w.room));
      }

-- ---- the flag of the last line

pub no_line : (n : ℕ) (flags : List ℕ) → n ≡ 0 → flags ≡ marked_last n flags
unfolding marked_last
no_line n flags e = sym (if-true _ _ (eq-eqb n 0 e))

pub last_line : (n : ℕ) (flags : List ℕ) → (n ≡ 0 → ⊥) → set flags (n - 1) 1 ≡ marked_last n flags
unfolding marked_last
last_line n flags z = sym (if-false _ _ (ne_eqb n 0 z))
