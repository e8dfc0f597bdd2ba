-- Addresses that the marks of a cleaned tape's lines hold, command by command: what is found or counted so far, with what is to come. Assumes nothing.
use Prim.Native.Nat.{ℕ, zero, suc, ◌+◌, ◌≤◌}
use native.Mathlib.Omega.{arith}
use mathlib.Core.Path.{◌≡◌, refl, sym, ap, ◌∙◌}
use mathlib.Core.Bool.{Bool, true, false, false≢true}
use mathlib.Core.List.{List, [], ◌∷◌}
use mathlib.Core.Option.{Option, none, some}
use lib.ListN.{length, drop}
use Rattle.reference.specs.Control.{◌and◌, ◌or◌, when◌then◌else◌}
use Rattle.reference.specs.Lists.{any, count}
use Rattle.reference.specs.Claim.{one_if}
use Rattle.reference.specs.Spans.{Span, Marks}
use Rattle.reference.specs.Tape as Tape
use Rattle.reference.specs.Tape.{TapeForm, old, command_size_by, command_by}
use Rattle.reference.proofs.Cases.{by-if}
use Rattle.tape.specs.Held.{Place, places_from, places_at, unplaced, commands, mark_of, marks_of}
use Rattle.tallies.specs.Counting.{spans_in, holds}
use Rattle.tallies.proofs.Adding.{at_most}

-- ---- whether they are held

-- the marks of the last line so far, and whether they hold them
pub record Found (s : Span) (whole begun held : Bool) (more : List Tape.Command) : Type 0 where
  pub marks : Marks
  pub is : held ≡ holds s marks
  pub shut : begun ≡ false → marks ≡ none
  pub told : ((begun and holds s (mark_of marks more)) or any (holds s) (marks_of more)) ≡ whole

module _ (s : Span) where
  pub found_begins : (cs : List Tape.Command) → Found s (any (holds s) (marks_of cs)) false false cs
  unfolding ◌and◌ ◌or◌
  found_begins cs = record { marks = none; is = refl; shut = λ e. refl; told = refl }

  not_shut : {b h : Bool} (m : Marks) → (b ≡ false → m ≡ none) → h ≡ holds s m → (b and holds s m) ≡ h
  unfolding ◌and◌
  not_shut {b = true} m n e = sym e
  not_shut {b = false} m n e = sym (e ∙ ap (holds s) (n refl))

module _ {s : Span} {whole begun held : Bool} where
  pub found_line : {address : Option ℕ} {indent : ℕ} {more : List Tape.Command} → Found s whole begun held (Tape.new_line address indent ∷ more) → held ≡ false
      → Found s whole true held more
  unfolding ◌and◌ ◌or◌
  found_line {more = more} f e = record {
    marks = none;
    is = e;
    shut = λ n. refl;
    told = sym (ap (λ (b : Bool). b or (holds s (mark_of none more) or any (holds s) (marks_of more))) (not_shut s f.marks f.shut f.is ∙ e)) ∙ f.told;
  }

  pub found_stops : {address : Option ℕ} {indent : ℕ} {more : List Tape.Command} → Found s whole begun held (Tape.new_line address indent ∷ more) → held ≡ true
      → true ≡ whole
  unfolding ◌or◌
  found_stops {more = more} f e =
      sym (ap (λ (b : Bool). b or (holds s (mark_of none more) or any (holds s) (marks_of more))) (not_shut s f.marks f.shut f.is ∙ e)) ∙ f.told

  pub found_ends : Found s whole begun held [] → held ≡ whole
  unfolding ◌or◌
  found_ends f = go held ∙ sym (ap (λ (b : Bool). b or false) (not_shut s f.marks f.shut f.is)) ∙ f.told
    where
      go : (b : Bool) → b ≡ (b or false)
      go true = refl
      go false = refl

pub found_marks : {s : Span} {whole begun held now : Bool} {m : Span} {more : List Tape.Command} → Found s whole begun held (Tape.marked m ∷ more)
    → now ≡ (begun and holds s (some m)) → Found s whole begun now more
unfolding ◌and◌
found_marks {begun = true} {m = m} f e = record { marks = some m; is = e; shut = λ n. absurd (false≢true (sym n)); told = f.told }
found_marks {begun = false} {m = m} f e = record { marks = none; is = e; shut = λ n. refl; told = f.told }

-- ---- how many

-- a command says one at most, and has a byte or more
spans_few : (cs : List Tape.Command) → length (spans_in cs) ≤ length cs
spans_few [] = omega arith
spans_few (Tape.new_line none indent ∷ more) = omega (arith, spans_few more)
spans_few (Tape.new_line (some a) indent ∷ more) = omega (arith, spans_few more)
spans_few (Tape.marked s ∷ more) = omega (arith, spans_few more)
spans_few (Tape.new_token t ∷ more) = omega (arith, spans_few more)
spans_few (Tape.end ∷ more) = omega (arith, spans_few more)

places_few : (fuel at : ℕ) (rest : List ℕ) → length (unplaced (places_from old fuel at rest)) ≤ fuel
unfolding places_from
places_few zero at rest = omega arith
places_few (suc fuel) at rest =
    let n = command_size_by old rest in
    by-if (λ (ps : List Place). length (unplaced ps) ≤ suc fuel) (λ e. omega (arith, places_few fuel (at + n) (drop n rest))) (λ e. omega arith)

pub spans_fit : (tape : List ℕ) → length (spans_in (commands tape)) ≤ length tape
unfolding places_at
spans_fit tape = omega (arith, spans_few (commands tape), places_few (length tape) 0 tape)

count_next : {A : Type 0} (p : A → Bool) (x : A) (xs : List A) → one_if (p x) + count p xs ≡ count p (x ∷ xs)
unfolding when◌then◌else◌
count_next p x xs = go (p x)
  where
    go : (b : Bool) → (when b then 1 else 0) + count p xs ≡ (when b then suc (count p xs) else count p xs)
    go true = omega arith
    go false = omega arith

-- those so far, with those to come, are all
pub record Counted (p : Span → Bool) (whole : List Span) (all held : ℕ) (more : List Tape.Command) : Type 0 where
  pub every : all + length (spans_in more) ≡ length whole
  pub some_held : held + count p (spans_in more) ≡ count p whole
  pub most : held ≤ all

module _ {p : Span → Bool} {whole : List Span} {all held : ℕ} {before : List Tape.Command} (s : Span) (more : List Tape.Command)
    (c : Counted p whole all held before) (e : spans_in before ≡ s ∷ spans_in more) where
  pub counted_fits : all + 1 ≤ length whole
  counted_fits = omega (arith, c.every, ap (λ (ss : List Span). length ss) e)

  pub counted_next : {all' held' : ℕ} → all' ≡ all + 1 → held' ≡ held + one_if (p s) → Counted p whole all' held' more
  counted_next a h = record {
    every = omega (arith, a, c.every, ap (λ (ss : List Span). length ss) e);
    some_held = omega (arith, h, c.some_held, ap (count p) e, count_next p s (spans_in more));
    most = omega (arith, a, h, c.most, at_most (p s));
  }
