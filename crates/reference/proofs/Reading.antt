-- The reading of a tape, command after command: what is known where a question is passed, that the fuel is enough, and the places that the
-- reading comes to. Assumes nothing.
use Prim.Native.Nat.{ℕ, zero, suc, ◌+◌, ◌-◌, ◌<◌, ◌≤◌}
use native.Mathlib.Omega.{arith}
use mathlib.Core.Path.{◌≡◌, refl, sym, ap, ◌∙◌}
use mathlib.Core.Bool.{Bool, true, false}
use mathlib.Core.List.{List, [], ◌∷◌, ◌++◌}
use lib.ListN.{length, drop, length-drop, drop_of_length-le}
use lib.Seq.{drop-drop}
use borrow.Author.Tests.{leb-true, le-leb, lt-leb}
use Rattle.reference.specs.Control.{when◌then◌else◌}
use Rattle.reference.specs.Listing.{Listing}
use Rattle.reference.specs.Spans.{Marks}
use Rattle.reference.specs.Tape.{TapeForm, old, header, Command, command_size_by, command_by}
use Rattle.reference.specs.Questions.{Totals, is_command_by, ends_inside_by, has_line, is_within, is_few, is_short, is_printable, is_over, first_offending, place_at, Answer, Refused, Passed, ask}
use Rattle.reference.specs.Questions.{let_passed◌then◌, count_in, Advance, read_command_by, is_end, add, no_commands, read_from_by, read_by, add_marks, marks_from_by, marks_in_by}
use Rattle.reference.proofs.Cases.{by-if}
use Rattle.reference.proofs.Commands.{FormBy, is_address, is_plain, is_marks, is_token, is_ending, form_of, is_form, address_form_by, plain_form_by, marks_form_by, token_form_by, end_form_by}

-- ---- questions

-- every answer is "yes"
abbrev pub Yes : List (ℕ × Bool) → Type 0
Yes [] = Unit {0}
Yes (q ∷ more) = (q.1 ≡ true) × Yes more

module _ {A : Type 0} where
  pub refused_passed : {number place : ℕ} {x : A} → Refused number place ≡ Passed x → ⊥
  refused_passed e = let z : ◌≡◌ {A = ℕ} 0 1 = cc in omega arith

  pub passed_inj : {x y : A} → Passed x ≡ Passed y → x ≡ y
  passed_inj e = cc

  pub ask-yes : (place : ℕ → ℕ) (qs : List (ℕ × Bool)) (a : Answer A) → Yes qs → ask place qs a ≡ a
  unfolding ask when◌then◌else◌
  ask-yes place [] a h = refl
  ask-yes place (q ∷ more) a h = rw h.0 (ask-yes place more a h.1)

  pub ask_no : (place : ℕ → ℕ) (before : List (ℕ × Bool)) (q : ℕ × Bool) (after : List (ℕ × Bool)) (a : Answer A) → Yes before → q.1 ≡ false
      → ask place (before ++ q ∷ after) a ≡ Refused q.0 (place q.0)
  unfolding ask when◌then◌else◌
  ask_no place [] q after a h e = rw e
  ask_no place (p ∷ before) q after a h e = rw h.0 (ask_no place before q after a h.1 e)

  pub ask_passed : (place : ℕ → ℕ) (qs : List (ℕ × Bool)) (a : Answer A) (x : A) → ask place qs a ≡ Passed x → Yes qs × (a ≡ Passed x)
  unfolding ask
  ask_passed place [] a x = λ e. (tt, e)
  ask_passed place (q ∷ more) a x =
      by-if (λ (r : Answer A). r ≡ Passed x → Yes (q ∷ more) × (a ≡ Passed x))
      (λ yes e. (let r = ask_passed place more a x e in ((yes, r.0), r.1)))
      (λ no e. absurd (refused_passed e))

  pub by_passed : {B : Type 0} (P : Answer A → Type 0) {a : Answer B} {k : B → Answer A}
      → ((number place : ℕ) → a ≡ Refused number place → P (Refused number place)) → ((x : B) → a ≡ Passed x → P (k x)) → P (let_passed a then k)
  unfolding let_passed◌then◌
  by_passed P {a = Refused number place} f g = f number place refl
  by_passed P {a = Passed x} f g = g x refl

  pub let_refused : {B : Type 0} {a : Answer B} {number place : ℕ} (k : B → Answer A) → a ≡ Refused number place → (let_passed a then k) ≡ Refused number place
  unfolding let_passed◌then◌
  let_refused k e = rw e

  pub let_is : {B : Type 0} {a : Answer B} {x : B} (k : B → Answer A) → a ≡ Passed x → (let_passed a then k) ≡ k x
  unfolding let_passed◌then◌
  let_is k e = rw e

  -- two continuations that agree in what f tells of them
  pub same_passed : {B C : Type 0} (f : Answer A → C) {a : Answer B} {k l : B → Answer A} → ((x : B) → a ≡ Passed x → f (k x) ≡ f (l x))
      → f (let_passed a then k) ≡ f (let_passed a then l)
  unfolding let_passed◌then◌
  same_passed f {a = Refused number place} h = refl
  same_passed f {a = Passed x} h = h x refl

-- ---- one command

-- the questions 3 to 8, 10 and 11 are answered "yes"
pub record PassesBy (form : TapeForm) (rest : List ℕ) (t : Totals) : Type 0 where
  pub known : FormBy form rest
  pub inside : command_size_by form rest ≤ length rest
  pub begun : has_line t (command_by form rest) ≡ true
  pub within : is_within (command_by form rest) ≡ true
  pub few : is_few t (command_by form rest) ≡ true
  pub short : is_short t (command_by form rest) ≡ true
  pub printable : is_printable (command_by form rest) ≡ true
  pub over : is_over rest (command_by form rest) ≡ true

abbrev pub Passes : List ℕ → Totals → Type 0
Passes = PassesBy old

abbrev pub advance_by : TapeForm → List ℕ → ℕ → Totals → Advance
advance_by form tape at t =
    record {
      command = command_by form (drop at tape);
      next = at + command_size_by form (drop at tape);
      totals = count_in (command_by form (drop at tape)) t;
    }

abbrev pub advance : List ℕ → ℕ → Totals → Advance
advance = advance_by old

module _ (form : TapeForm) where
  pub command_passed_by : (tape : List ℕ) (at : ℕ) (t : Totals) (a : Advance) → read_command_by form tape at t ≡ Passed a
      → PassesBy form (drop at tape) t × (a ≡ advance_by form tape at t)
  unfolding read_command_by ends_inside_by
  command_passed_by tape at t a e =
      let r = ask_passed _ _ (Passed (advance_by form tape at t)) a e in
      let yes = r.0 in
      let passes : PassesBy form (drop at tape) t =
      record {
        known = form_of _ yes.0;
        inside = leb-true _ _ yes.1.0;
        begun = yes.1.1.0;
        within = yes.1.1.1.0;
        few = yes.1.1.1.1.0;
        short = yes.1.1.1.1.1.0;
        printable = yes.1.1.1.1.1.1.0;
        over = yes.1.1.1.1.1.1.1.0;
      } in
      (passes, sym (passed_inj r.1))

pub command_passed : (tape : List ℕ) (at : ℕ) (t : Totals) (a : Advance) → read_command_by old tape at t ≡ Passed a
    → Passes (drop at tape) t × (a ≡ advance tape at t)
command_passed = command_passed_by old

module _ {form : TapeForm} where
  pub pass_command : (tape : List ℕ) (at : ℕ) (t : Totals) → PassesBy form (drop at tape) t
      → read_command_by form tape at t ≡ Passed (advance_by form tape at t)
  unfolding read_command_by ends_inside_by
  pass_command tape at t p =
      ask-yes _ _ _ (is_form _ p.known, (le-leb _ _ p.inside, (p.begun, (p.within, (p.few, (p.short, (p.printable, (p.over, tt))))))))

-- and where one is the first answered "no"
module _ (form : TapeForm) (tape : List ℕ) (at : ℕ) (t : Totals) where
  pub refused_3_by : is_command_by form (drop at tape) ≡ false → read_command_by form tape at t ≡ Refused 3 at
  unfolding read_command_by place_at when◌then◌else◌
  refused_3_by e = ask_no _ [] _ _ _ tt e

-- the command at an offset
abbrev there : TapeForm → List ℕ → ℕ → Command
there form tape at = command_by form (drop at tape)

module _ {form : TapeForm} (tape : List ℕ) (at : ℕ) (t : Totals) where
  pub refused_4 : FormBy form (drop at tape) → length (drop at tape) < command_size_by form (drop at tape) → read_command_by form tape at t ≡ Refused 4 at
  unfolding read_command_by ends_inside_by place_at when◌then◌else◌
  refused_4 f h = ask_no _ ((3, _) ∷ []) _ _ _ (is_form _ f, tt) (lt-leb _ _ h)

  module _ (f : FormBy form (drop at tape)) (inside : command_size_by form (drop at tape) ≤ length (drop at tape)) where
    pub refused_5 : has_line t (there form tape at) ≡ false → read_command_by form tape at t ≡ Refused 5 at
    unfolding read_command_by ends_inside_by place_at when◌then◌else◌
    refused_5 e = ask_no _ ((3, _) ∷ (4, _) ∷ []) _ _ _ (is_form _ f, (le-leb _ _ inside, tt)) e

    module _ (begun : has_line t (there form tape at) ≡ true) where
      pub refused_6 : is_within (there form tape at) ≡ false → read_command_by form tape at t ≡ Refused 6 at
      unfolding read_command_by ends_inside_by place_at when◌then◌else◌
      refused_6 e = ask_no _ ((3, _) ∷ (4, _) ∷ (5, _) ∷ []) _ _ _ (is_form _ f, (le-leb _ _ inside, (begun, tt))) e

      module _ (within : is_within (there form tape at) ≡ true) where
        pub refused_10 : is_few t (there form tape at) ≡ false → read_command_by form tape at t ≡ Refused 10 at
        unfolding read_command_by ends_inside_by place_at when◌then◌else◌
        refused_10 e = ask_no _ ((3, _) ∷ (4, _) ∷ (5, _) ∷ (6, _) ∷ []) _ _ _ (is_form _ f, (le-leb _ _ inside, (begun, (within, tt)))) e

        module _ (few : is_few t (there form tape at) ≡ true) where
          pub refused_11 : is_short t (there form tape at) ≡ false → read_command_by form tape at t ≡ Refused 11 at
          unfolding read_command_by ends_inside_by place_at when◌then◌else◌
          refused_11 e =
              ask_no _ ((3, _) ∷ (4, _) ∷ (5, _) ∷ (6, _) ∷ (10, _) ∷ []) _ _ _ (is_form _ f, (le-leb _ _ inside, (begun, (within, (few, tt))))) e

          module _ (short : is_short t (there form tape at) ≡ true) where
            pub refused_7 : is_printable (there form tape at) ≡ false → read_command_by form tape at t ≡ Refused 7 (at + first_offending (there form tape at))
            unfolding read_command_by ends_inside_by place_at when◌then◌else◌
            refused_7 e =
                ask_no _ ((3, _) ∷ (4, _) ∷ (5, _) ∷ (6, _) ∷ (10, _) ∷ (11, _) ∷ []) _ _ _
                (is_form _ f, (le-leb _ _ inside, (begun, (within, (few, (short, tt))))))
                e

            pub refused_8 : is_printable (there form tape at) ≡ true → is_over (drop at tape) (there form tape at) ≡ false → read_command_by form tape at t ≡ Refused 8 at
            unfolding read_command_by ends_inside_by place_at when◌then◌else◌
            refused_8 p e =
                ask_no _ ((3, _) ∷ (4, _) ∷ (5, _) ∷ (6, _) ∷ (10, _) ∷ (11, _) ∷ (7, _) ∷ []) _ _ _
                (is_form _ f, (le-leb _ _ inside, (begun, (within, (few, (short, (p, tt)))))))
                e

module _ {form : TapeForm} where
  pub size_positive : (rest : List ℕ) → FormBy form rest → 1 ≤ command_size_by form rest
  size_positive rest (is_address e) = omega (arith, (address_form_by form rest e).0)
  size_positive rest (is_plain e) = omega (arith, (plain_form_by form rest e).0)
  size_positive rest (is_marks e) = omega (arith, (marks_form_by form rest e).0)
  size_positive rest (is_token low high) = omega (arith, (token_form_by form rest low high).0)
  size_positive rest (is_ending e) = omega (arith, (end_form_by form rest e).0)

  -- a command that passes goes on, inside the tape
  pub advances : (tape : List ℕ) (at : ℕ) (t : Totals) → PassesBy form (drop at tape) t
      → (at < at + command_size_by form (drop at tape)) × (at + command_size_by form (drop at tape) ≤ length tape)
  advances tape at t p =
      let positive = size_positive (drop at tape) p.known in
      let inside = rw length-drop at p.inside in
      omega arith

module _ (form : TapeForm) where
  -- where there is no byte, the answer is 3
  pub no_byte_by : (tape : List ℕ) (at : ℕ) (t : Totals) → length tape ≤ at → read_command_by form tape at t ≡ Refused 3 at
  unfolding is_command_by
  no_byte_by tape at t h = refused_3_by form tape at t (rw (drop_of_length-le tape h))

-- ---- the fuel is enough

module _ (form : TapeForm) (tape : List ℕ) where
  later : (at : ℕ) (t : Totals) (a : Advance) → read_command_by form tape at t ≡ Passed a → at < a.next
  later at t a e = let r = command_passed_by form tape at t a e in omega (arith, advances tape at t r.0, ap (λ (a : Advance). a.next) r.1)

  enough : (f g at : ℕ) (t : Totals) (lines : Listing) → length tape ≤ at + f → length tape ≤ at + g
      → read_from_by form f tape at t lines ≡ read_from_by form g tape at t lines
  unfolding read_from_by
  enough zero zero at t lines h k = refl
  enough zero (suc g) at t lines h k = sym (let_refused _ (no_byte_by form tape at t (omega arith)))
  enough (suc f) zero at t lines h k = let_refused _ (no_byte_by form tape at t (omega arith))
  enough (suc f) (suc g) at t lines h k =
      same_passed (λ r. r)
      λ a e. (let before = later at t a e in rw (enough f g a.next a.totals (add a.command lines) (omega arith) (omega arith)))

  -- the reading from an offset on
  abbrev pub reading_by : ℕ → Totals → Listing → Answer Listing
  reading_by at t lines = read_from_by form (length tape - at) tape at t lines

  pub reading_step_by : (at : ℕ) (t : Totals) (lines : Listing)
      → reading_by at t lines
      ≡ (let_passed (read_command_by form tape at t) then λ a. when is_end a.command then Passed lines else reading_by a.next a.totals (add a.command lines))
  unfolding read_from_by
  reading_step_by at t lines =
      enough (length tape - at) (suc (length tape)) at t lines (omega arith) (omega arith)
      ∙ same_passed (λ r. r)
      λ a e. (let before = later at t a e in rw (enough (length tape) (length tape - a.next) a.next a.totals (add a.command lines) (omega arith) (omega arith)))

  pub read-whole_by : read_by form tape ≡ reading_by (header form) (no_commands) []
  unfolding read_by
  read-whole_by = enough (length tape) (length tape - header form) (header form) (no_commands) [] (omega arith) (omega arith)

-- ---- the places that a reading comes to

pub record State : Type 0 where
  pub at : ℕ
  pub totals : Totals
  pub lines : Listing
  pub marks : List Marks

abbrev pub start_by : TapeForm → State
start_by form = record { at = header form; totals = no_commands; lines = []; marks = [] }

abbrev pub start : State
start = start_by old

module _ (tape : List ℕ) where
  abbrev pub left : State → List ℕ
  left s = drop s.at tape

module _ (form : TapeForm) (tape : List ℕ) where
  abbrev pub after_by : State → State
  after_by s =
      record {
        at = s.at + command_size_by form (left tape s);
        totals = count_in (command_by form (left tape s)) s.totals;
        lines = add (command_by form (left tape s)) s.lines;
        marks = add_marks (command_by form (left tape s)) s.marks;
      }

  -- reached from the start by commands that pass and are not the end
  pub data ReachedBy : State → Type 0 where
    here : ReachedBy (start_by form)
    on : {s : State} → ReachedBy s → PassesBy form (left tape s) s.totals → is_end (command_by form (left tape s)) ≡ false → ReachedBy (after_by s)

  -- the end is reached, and passes
  pub record AcceptsBy (out : Listing) : Type 0 where
    pub state : State
    pub reached : ReachedBy state
    pub passes : PassesBy form (left tape state) state.totals
    pub ends : is_end (command_by form (left tape state)) ≡ true
    pub listing : state.lines ≡ out

  pub accepts_by : (out : Listing) → read_by form tape ≡ Passed out → AcceptsBy out
  unfolding read_by read_from_by
  accepts_by out = go (length tape) (start_by form) here
    where
      go : (fuel : ℕ) (s : State) → ReachedBy s → read_from_by form fuel tape s.at s.totals s.lines ≡ Passed out → AcceptsBy out
      go zero s r = λ e. absurd (refused_passed e)
      go (suc fuel) s r =
          by_passed (λ (x : Answer Listing). x ≡ Passed out → AcceptsBy out)
          (λ number place u e. absurd (refused_passed e))
          (λ a known e.
          (let p = command_passed_by form tape s.at s.totals a known in
          by-if (λ (x : Answer Listing). x ≡ Passed out → AcceptsBy out)
          (λ ends e. record { state = s; reached = r; passes = p.0; ends = ends; listing = passed_inj e })
          (λ goes e. go fuel (after_by s) (on r p.0 goes) e)
          (rw p.1 at e)))

module _ (form : TapeForm) where
  marks-step : (f n : ℕ) (rest : List ℕ) (marks : List Marks) → f ≡ suc n → is_end (command_by form rest) ≡ false
      → marks_from_by form f rest marks ≡ marks_from_by form n (drop (command_size_by form rest) rest) (add_marks (command_by form rest) marks)
  unfolding marks_from_by when◌then◌else◌
  marks-step f n rest marks e h = rw (e, h)

  marks-stop : (f n : ℕ) (rest : List ℕ) (marks : List Marks) → f ≡ suc n → is_end (command_by form rest) ≡ true → marks_from_by form f rest marks ≡ marks
  unfolding marks_from_by when◌then◌else◌
  marks-stop f n rest marks e h = rw (e, h)

  -- what is left to read of them, with as much fuel as there are bytes or more
  record MarksLeft (tape : List ℕ) (s : State) : Type 0 where
    fuel : ℕ
    plenty : length (left tape s) ≤ fuel
    so_far : marks_in_by form tape ≡ marks_from_by form fuel (left tape s) s.marks

abbrev pub Reached : List ℕ → State → Type 0
Reached = ReachedBy old

abbrev pub after : List ℕ → State → State
after = after_by old

module _ {form : TapeForm} (tape : List ℕ) where
  pub reading_of : {s : State} → ReachedBy form tape s → read_by form tape ≡ reading_by form tape s.at s.totals s.lines
  unfolding when◌then◌else◌
  reading_of here = read-whole_by form tape
  reading_of (on {s = s} r p n) =
      reading_of r
      ∙ reading_step_by form tape s.at s.totals s.lines
      ∙ let_is _ (pass_command tape s.at s.totals p)
      ∙ rw n

  pub accepted : (out : Listing) → AcceptsBy form tape out → read_by form tape ≡ Passed out
  unfolding when◌then◌else◌
  accepted out a =
      let s = a.state in
      reading_of a.reached
      ∙ reading_step_by form tape s.at s.totals s.lines
      ∙ let_is _ (pass_command tape s.at s.totals a.passes)
      ∙ rw (a.ends, a.listing)

  -- ---- the 03s that were read in

  some_left : {s : State} → PassesBy form (left tape s) s.totals → (m : MarksLeft form tape s) → (n : ℕ) × (m.fuel ≡ suc n)
  some_left {s} p m = go m.fuel m.plenty
    where
      go : (f : ℕ) → length (left tape s) ≤ f → (n : ℕ) × (f ≡ suc n)
      go zero le = absurd (omega (arith, size_positive (left tape s) p.known, p.inside))
      go (suc n) le = (n, refl)

  marks_left : {s : State} → ReachedBy form tape s → MarksLeft form tape s
  unfolding marks_in_by
  marks_left here = record { fuel = length tape; plenty = omega (arith, length-drop (header form) tape); so_far = refl }
  marks_left (on {s = s} r p n) =
      let m = marks_left r in
      let f = some_left p m in
      let rest : List ℕ = left tape s in
      let here = m.so_far ∙ marks-step form m.fuel f.0 rest s.marks f.1 n in
      record {
        fuel = f.0;
        plenty = omega (arith, m.plenty, f.1, size_positive rest p.known, p.inside, length-drop s.at tape, length-drop (s.at + command_size_by form rest) tape);
        so_far = here ∙ ap (λ (r : List ℕ). marks_from_by form f.0 r (add_marks (command_by form rest) s.marks)) (drop-drop (command_size_by form rest) s.at tape);
      }

  -- THE 03S OF AN ACCEPTED TAPE ARE THOSE THAT ITS READING COMES TO
  pub marks-read : (out : Listing) (a : AcceptsBy form tape out) → marks_in_by form tape ≡ a.state.marks
  marks-read out a =
      let m = marks_left a.reached in
      let f = some_left a.passes m in
      m.so_far ∙ marks-stop form m.fuel f.0 (left tape a.state) a.state.marks f.1 a.ends
