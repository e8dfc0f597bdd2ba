-- The questions of one command: by the number of the first "no", and as the code asks them after `command_at`. Assumes nothing.
use Prim.Native.Nat.{ℕ, suc, ◌+◌, ◌-◌, ◌≤◌, ◌<◌}
use native.Mathlib.Omega.{arith}
use mathlib.Core.Path.{◌≡◌, refl, sym, ap, ◌∙◌}
use mathlib.Core.Bool.{Bool, true, false, false≢true}
use mathlib.Core.List.{List, [], ◌∷◌, ◌++◌}
use mathlib.Core.Option.{Option, none, some}
use lib.ListN.{length, take, drop, length-drop, drop_of_length-le}
use lib.Seq.{length-take-le}
use borrow.Author.Tests.{leb-true, le-leb}
use Rattle.reference.specs.Control.{◌or◌, when◌then◌else◌, let_some◌else◌then◌}
use Rattle.reference.specs.Lists.{is_some, any, position, is_empty}
use Rattle.reference.specs.Listing.{Token, token}
use Rattle.reference.specs.Spans.{Span}
use Rattle.reference.specs.Tape.{TapeForm, new_line, marked, new_token, end, command_by}
use Rattle.reference.specs.Tape as Tape
use Rattle.reference.specs.Questions as Q
use Rattle.reference.specs.Questions.{is_command_by, ends_inside_by, has_line, is_within, is_few, is_short, is_printable, is_over, first_offending, place_at, is_end, Answer, Refused}
use Rattle.reference.specs.Questions.{Passed, ask, count_in, Advance, read_command_by}
use Rattle.reference.specs.Steps.{FromHereBy}
use Rattle.reference.proofs.Cases.{by-if}
use Rattle.reference.proofs.Commands.{is_form}
use Rattle.reference.proofs.Reading.{Yes, ask-yes, ask_passed, refused_passed, advance_by}
use Rattle.reference.proofs.Steps.{step-from_here_by}
use Rattle.laws.proofs.Scans.{by_test}
use Rattle.tape.specs.Commands.{command_in, size_of_by, looked_at, ends, standing_by}
use Rattle.tape.specs.Questions.{first_no, totals_of, questions, asking, counted, Counts}
use Rattle.tape.specs.declared.commands.Command.{Command}
use Rattle.tape.specs.declared.commands.Command.TheVariants.{Addressed, Plain, Marked, Token as NewToken, End}
use Rattle.tape.specs.declared.questions.Totals.{Totals}
use Rattle.tape.proofs.commands.Standing.{StandsBy, stands-inside}

-- ---- the end

pub is_end_end : (c : Tape.Command) → is_end c ≡ true → c ≡ end
is_end_end (new_line address indent) e = absurd (false≢true e)
is_end_end (marked s) e = absurd (false≢true e)
is_end_end (new_token t) e = absurd (false≢true e)
is_end_end end e = refl

-- ---- the first "no"

-- no question has the number 0
abbrev pub Numbered : List (ℕ × Bool) → Type 0
Numbered [] = Unit {0}
Numbered (q ∷ more) = (1 ≤ q.0) × Numbered more

pub none_no : (qs : List (ℕ × Bool)) → Numbered qs → first_no qs ≡ 0 → Yes qs
unfolding first_no
none_no [] n = λ e. tt
none_no (q ∷ more) n =
    by-if (λ (r : ℕ). r ≡ 0 → Yes (q ∷ more)) (λ yes e. (yes, none_no more n.1 e)) (λ no e. absurd (omega (arith, n.0)))

module _ {A : Type 0} (place : ℕ → ℕ) where
  pub ask_number : (qs : List (ℕ × Bool)) (a : Answer A) {n : ℕ} → (n ≡ 0 → ⊥) → first_no qs ≡ n → ask place qs a ≡ Refused n (place n)
  unfolding first_no ask when◌then◌else◌
  ask_number [] a z e = absurd (z (sym e))
  ask_number (q ∷ more) a z e =
      by_test q.1 (λ t. rw t (ask_number more a z (rw t at e))) (λ t. rw t (ap (λ (k : ℕ). Refused k (place k)) (rw t at e)))

  -- a refusal by the first questions is a refusal by all
  ask-front : {B : Type 0} (qs more : List (ℕ × Bool)) (x : B) (a : Answer A) {n p : ℕ} → ask place qs (Passed x) ≡ Refused n p
      → ask place (qs ++ more) a ≡ Refused n p
  unfolding ask when◌then◌else◌
  ask-front [] more x a e = absurd (refused_passed (sym e))
  ask-front (q ∷ qs) more x a e =
      by_test q.1 (λ t. rw t (ask-front qs more x a (rw t at e))) (λ t. rw t (let z = rw t at e in cc))

  -- questions that are answered "yes" can be left out
  ask-later : (qs more : List (ℕ × Bool)) (a : Answer A) → Yes qs → ask place (qs ++ more) a ≡ ask place more a
  unfolding ask when◌then◌else◌
  ask-later [] more a h = refl
  ask-later (q ∷ qs) more a h = rw h.0 (ask-later qs more a h.1)

-- ---- the questions after 4, kind by kind

module _ (rest : List ℕ) (at : ℕ) (t : Q.Totals) where
  -- of a line, whatever its address
  pub line_asked : (address : Option ℕ) (indent : ℕ) → asking [] at t (new_line none indent) ≡ asking rest at t (new_line address indent)
  unfolding ask has_line is_within is_few is_short is_printable is_over place_at first_offending
  line_asked address indent = refl

  pub marks_fit : (s : Span) {x : Bool} → x ≡ has_line t (marked s) → x ≡ true → Passed tt ≡ asking rest at t (marked s)
  unfolding ask is_within is_few is_short is_printable is_over when◌then◌else◌
  marks_fit s e f = rw (sym e ∙ f)

  pub marks_misplaced : (s : Span) {x : Bool} → x ≡ has_line t (marked s) → x ≡ false → Refused 5 at ≡ asking rest at t (marked s)
  unfolding ask place_at when◌then◌else◌
  marks_misplaced s e f = rw (sym e ∙ f)

  token_asked : (s : Token) → asking [] at t (new_token s) ≡ asking rest at t (new_token s)
  unfolding is_over
  token_asked s = refl

  end_asked : asking rest at t end ≡ (when is_empty (drop 1 rest) then Passed tt else Refused 8 at)
  unfolding ask has_line is_within is_few is_short is_printable is_over place_at when◌then◌else◌
  end_asked = refl

module _ (tape : List ℕ) (at : ℕ) (t : Q.Totals) where
  -- of the token's text, a part of the tape
  pub text_asked : (kind count : ℕ) {text : List ℕ} → text ≡ take count (drop (at + 3) tape)
      → asking [] at t (new_token (token kind text)) ≡ asking (drop at tape) at t (command_in tape at (NewToken kind count))
  text_asked kind count f =
      ap (λ (s : List ℕ). asking [] at t (new_token (token kind s))) f ∙ token_asked (drop at tape) at t (token kind (take count (drop (at + 3) tape)))

  pub end_over : length tape - at ≡ 1 → Passed tt ≡ asking (drop at tape) at t end
  unfolding when◌then◌else◌
  end_over h =
      let e : drop 1 (drop at tape) ≡ [] = drop_of_length-le (drop at tape) {i = 1} (rw length-drop (omega arith)) in
      sym (end_asked (drop at tape) at t ∙ rw e)

  pub end_follows : at + 1 ≤ length tape → (length tape - at ≡ 1 → ⊥) → Refused 8 at ≡ asking (drop at tape) at t end
  unfolding when◌then◌else◌
  end_follows h n =
      let more : 0 < length (drop 1 (drop at tape)) = rw (length-drop 1 (drop at tape), length-drop at tape) (omega (arith, n)) in
      sym (end_asked (drop at tape) at t ∙ rw (not-empty (drop 1 (drop at tape)) more))
    where
      not-empty : (s : List ℕ) → 0 < length s → is_empty s ≡ false
      not-empty [] h = absurd (omega arith)
      not-empty (x ∷ s) h = refl

-- a search for a place finds one just where there is one
module _ {A : Type 0} (p : A → Bool) where
  pub found : (s : List A) → is_some (position p s) ≡ any p s
  unfolding ◌or◌ when◌then◌else◌ let_some◌else◌then◌
  found [] = refl
  found (x ∷ s) = either (p x) (position p s) (found s)
    where
      either : (b : Bool) (o : Option ℕ) {r : Bool} → is_some o ≡ r → is_some (when b then some 0 else (let_some o else none then λ k. some (suc k))) ≡ (b or r)
      either true o e = refl
      either false none e = e
      either false (some k) e = e

-- ---- one command

looked-less : (form : TapeForm) (c : Command) → looked_at c ≤ size_of_by form c
looked-less form (Addressed address indent) = omega arith
looked-less form (Plain indent) = omega arith
looked-less form (Marked low high) = omega arith
looked-less form (NewToken kind count) = omega arith
looked-less form End = omega arith

-- every question after 4 is answered "yes"
pub all_yes : (tape : List ℕ) (at : ℕ) (t : Q.Totals) (c : Command) → Passed tt ≡ asking (drop at tape) at t (command_in tape at c)
    → Yes (questions (drop at tape) t (command_in tape at c))
all_yes tape at t c e = (ask_passed _ _ _ _ (sym e)).0

pub looked_inside : {form : TapeForm} {tape : List ℕ} {at : ℕ} {c : Command} → StandsBy form tape at c → at + looked_at c ≤ length tape
looked_inside {form} {c = c} s = omega (arith, stands-inside s, looked-less form c)

module _ (form : TapeForm) (tape : List ℕ) (at : ℕ) where
  -- question 3 or 4 refuses it
  pub stops : (t : Q.Totals) {n p : ℕ} → Refused n p ≡ standing_by form tape at → Refused n p ≡ read_command_by form tape at t
  unfolding standing_by read_command_by ask place_at when◌then◌else◌
  stops t e =
      let rest = drop at tape in
      let c = command_by form rest in
      sym (ask-front (place_at at c) ((3, is_command_by form rest) ∷ (4, ends_inside_by form rest) ∷ []) (questions rest t c) _ _ (sym e))

  text_long : {kind count : ℕ} → StandsBy form tape at (NewToken kind count) → length (take count (drop (at + 3) tape)) ≡ count
  text_long {count = count} s = length-take-le count (drop (at + 3) tape) (rw length-drop (omega (arith, stands-inside s)))

  module _ (t : Q.Totals) where
    counted_same : {c : Command} → StandsBy form tape at c → count_in (command_in tape at c) t ≡ counted c t
    unfolding count_in
    counted_same {c = Addressed address indent} s = refl
    counted_same {c = Plain indent} s = refl
    counted_same {c = Marked low high} s = refl
    counted_same {c = NewToken kind count} s = rw (text_long s)
    counted_same {c = End} s = refl

    pub counted_as : {c : Command} → StandsBy form tape at c → count_in (command_by form (drop at tape)) t ≡ counted c t
    counted_as s = ap (λ k. count_in k t) (sym s.same) ∙ counted_same s

    abbrev pub advanced : Command → Advance
    advanced c = record { command = command_in tape at c; next = at + size_of_by form c; totals = counted c t }

    pub advanced_same : {c : Command} → StandsBy form tape at c → advance_by form tape at t ≡ advanced c
    advanced_same s = rw (s.same, s.size, ← counted_as s)

    asks : {c : Command} → StandsBy form tape at c → read_command_by form tape at t
        ≡ ask (place_at at (command_in tape at c)) (questions (drop at tape) t (command_in tape at c)) (Passed (advanced c))
    unfolding read_command_by ends_inside_by
    asks s =
        ask-later _ ((3, is_command_by form (drop at tape)) ∷ (4, ends_inside_by form (drop at tape)) ∷ []) _ _ (is_form _ s.known, (le-leb _ _ s.inside, tt))
        ∙ rw (← advanced_same s, s.same)

    -- a later question refuses it
    pub refuses : {c : Command} {n place : ℕ} → StandsBy form tape at c → Refused n place ≡ asking (drop at tape) at t (command_in tape at c)
        → Refused n place ≡ read_command_by form tape at t
    refuses {c} s e = sym (asks s ∙ ask-front (place_at at (command_in tape at c)) (questions (drop at tape) t (command_in tape at c)) [] tt _ (sym e))

    -- none does
    pub passes : {c : Command} → StandsBy form tape at c → Passed tt ≡ asking (drop at tape) at t (command_in tape at c) → Passed (advanced c) ≡ read_command_by form tape at t
    passes {c} s e = sym (asks s ∙ ask-yes _ _ _ (all_yes tape at t c e))

  pub within-counts : {c : Command} (t : Totals) → StandsBy form tape at c → is_few (totals_of t) (command_in tape at c) ≡ true
      → is_short (totals_of t) (command_in tape at c) ≡ true → Counts c t
  unfolding is_few is_short
  within-counts {c = Addressed address indent} t s few short = omega (arith, leb-true (t.lines + 1) 256 few)
  within-counts {c = Plain indent} t s few short = omega (arith, leb-true (t.lines + 1) 256 few)
  within-counts {c = Marked low high} t s few short = tt
  within-counts {c = NewToken kind count} t s few short =
      omega (arith, leb-true (t.tokens + 1) 1024 few, leb-true (t.text + length (take count (drop (at + 3) tape))) 24576 short, text_long s)
  within-counts {c = End} t s few short = tt

  -- the step's promise
  pub promised : (t : Q.Totals) {x : Answer Advance} → x ≡ read_command_by form tape at t → (x ≡ read_command_by form tape at t) × FromHereBy form tape at t x
  promised t e = (e, rw e (step-from_here_by form tape at t))

  pub ends_same : (c : Command) → is_end (command_in tape at c) ≡ ends c
  ends_same (Addressed address indent) = refl
  ends_same (Plain indent) = refl
  ends_same (Marked low high) = refl
  ends_same (NewToken kind count) = refl
  ends_same End = refl
