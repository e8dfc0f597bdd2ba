-- The marks of the finished lines (M-105). Kept step by step they are those of the definition by sources (`carried`), and no instruction is lost:
-- every address of the input lies within the marks of a finished line (`nothing_lost`), since a line that is removed is joined into one line at least.
-- Assumes nothing.
use Prim.Native.Nat.{ℕ, zero, suc, ◌^◌, ◌<◌}
use native.Mathlib.Omega.{arith}
use native.Mathlib.Nat.{le_refl, eq-or-lt_of_le}
use mathlib.Core.Path.{◌≡◌, refl, sym, ap, ◌∙◌, subst}
use mathlib.Core.Logic.{⊎_elim}
use mathlib.Core.Bool.{Bool, true, false}
use mathlib.Core.List.{List, [], ◌∷◌, ◌++◌, map, flatten}
use mathlib.Core.Option.{Option, none, some}
use lib.Dec.{eqb}
use lib.ListN.{length, get_or, drop}
use lib.Seq.{ext_get_or}
use borrow.Author.Tests.{eq-eqb, ne_eqb, eqb-true, eqb-false, ltb-true, ltb-false}
use Rattle.reference.specs.Control.{◌or◌, when◌then◌else◌, let_some◌else◌then◌}
use Rattle.reference.specs.Lists.{any, remove, modify}
use Rattle.reference.specs.Text.{Text}
use Rattle.reference.specs.Listing.{Line, Listing, ◌at◌}
use Rattle.reference.specs.Rules.{Rules}
use Rattle.reference.specs.Life.{Labels}
use Rattle.reference.specs.Join.{targets}
use Rattle.reference.specs.Spans.{Marks, point, hull, span_of}
use Rattle.reference.specs.Run.{Attempt, failure, success, after_attempts, after_rounds, last_of, run, attempts_of, steps, finished}
use Rattle.reference.specs.Marks.{moved, comes_to, adds, added, of_each, finished_marks, take_in, carry, own_marks}
use Rattle.reference.specs.Tape.{write}
use Rattle.reference.specs.Questions.{Passed, read, marks_in}
use Rattle.reference.specs.Demand.{Attempts, over, failed, succeeded, Rounds, enough, ended, again, Cuts, done, kept, dropped}
use Rattle.reference.proofs.Cases.{by-if}
use Rattle.reference.proofs.Lines.{length-modify, length-remove}
use Rattle.reference.proofs.Changes.{removed-length}
use Rattle.reference.proofs.Attempts.{attempt_removed, Joined, attempt_joined}
use Rattle.reference.proofs.Rounds.{run-taken}
use Rattle.reference.proofs.LittleEndian.{Bytes}
use Rattle.reference.proofs.Commands.{AddressFits}
use Rattle.reference.proofs.Limits.{All, all_append, MarksFit, TapeFits}
use Rattle.reference.proofs.Tapes.{read_fits, read-marks_fit}
use Rattle.reference.proofs.Written.{read-write}
use Rattle.reference.proofs.Spans.{span_append, Covers, all_left, all_right, span_covers, hull_of, hull_of_ext, hull_of_one, hull_of-take_in, but, but_elsewhere, but_same, hull_of-remove}
use Rattle.reference.proofs.Spans.{hull_of-split}

-- ---- what the attempts of a run do to the places of lines: from n lines to m

data Moves : ℕ → List Attempt → ℕ → Type 0 where
  rest : {n : ℕ} → Moves n [] n
  stays : {n m i : ℕ} {lines : Listing} {more : List Attempt} → Moves n more m → Moves n (failure i lines ∷ more) m
  joins : {n m i : ℕ} {js : List ℕ} {lines : Listing} {more : List Attempt} → i < suc n → Joined i (suc n) js → Moves n more m
      → Moves (suc n) (success i js lines ∷ more) m

moves_append : {n m k : ℕ} {xs ys : List Attempt} → Moves n xs m → Moves m ys k → Moves n (xs ++ ys) k
moves_append rest q = q
moves_append (stays p) q = stays (moves_append p q)
moves_append (joins h j p) q = joins h j (moves_append p q)

round_moves : {rules : Rules} {addressed : List Text} {i : ℕ} {lines : Listing} {labels : Labels} {round : List Attempt}
    → Attempts rules addressed i lines labels round → Moves (length lines) round (length (after_attempts lines round))
unfolding after_attempts
round_moves (over h) = rest
round_moves (failed h e more) = stays (round_moves more)
round_moves {rules = rules} {addressed = addressed} (succeeded {i = i} {lines = lines} {lines' = lines'} {labels = labels} {more = more} h e next) =
    let fewer : suc (length lines') ≡ length lines = removed-length (attempt_removed rules lines i labels addressed e) in
    subst (λ (n : ℕ). Moves n (success i (targets rules lines i labels) lines' ∷ more) (length (after_attempts lines' more))) fewer
    (joins (rw fewer h) (rw fewer (attempt_joined rules lines i labels addressed e)) (round_moves next))

rounds-move : {rules : Rules} {limit : ℕ} {lines : Listing} {rounds : List (List Attempt)} → Rounds rules limit lines rounds
    → Moves (length lines) (flatten rounds) (length (after_rounds lines rounds))
unfolding flatten after_rounds
rounds-move enough = rest
rounds-move (ended h e) = moves_append (round_moves h) rest
rounds-move (again h e more) = moves_append (round_moves h) (rounds-move more)

-- ---- the finished listing has as many lines as the rounds left

cuts-length : {rules : Rules} {labels : Labels} {i : ℕ} {lines : Listing} {cuts : List Listing} → Cuts rules labels i lines cuts
    → length (last_of lines cuts) ≡ length lines
unfolding last_of
cuts-length (done h) = refl
cuts-length (kept h e more) = cuts-length more
cuts-length (dropped {i = i} {lines = lines} h e same more) = cuts-length more ∙ ap length same ∙ length-modify _ i lines

last_append : (l : Listing) (xs ys : List Listing) → last_of l (xs ++ ys) ≡ last_of (last_of l xs) ys
unfolding last_of
last_append l [] ys = refl
last_append l (x ∷ xs) ys = last_append x xs ys

after_append : (lines : Listing) (xs ys : List Attempt) → after_attempts lines (xs ++ ys) ≡ after_attempts (after_attempts lines xs) ys
unfolding after_attempts
after_append lines [] ys = refl
after_append lines (x ∷ xs) ys = after_append x.left xs ys

last_left : (lines : Listing) (round : List Attempt) → last_of lines (map (λ a. a.left) round) ≡ after_attempts lines round
unfolding last_of after_attempts
last_left lines [] = refl
last_left lines (a ∷ more) = last_left a.left more

after-all : (lines : Listing) (rounds : List (List Attempt)) → after_attempts lines (flatten rounds) ≡ after_rounds lines rounds
unfolding flatten after_rounds after_attempts
after-all lines [] = refl
after-all lines (round ∷ more) = after_append lines round (flatten more) ∙ after-all (after_attempts lines round) more

pub finished_is : (rules : Rules) (input : Listing) → finished rules input ≡ last_of (after_rounds input (run rules input).rounds) (run rules input).cuts
unfolding finished steps attempts_of
finished_is rules input =
    let r = run rules input in
    last_append input (map (λ a. a.left) (flatten r.rounds)) r.cuts
    ∙ ap (λ (l : Listing). last_of l r.cuts) (last_left input (flatten r.rounds) ∙ after-all input r.rounds)

run-moves : (rules : Rules) (input : Listing) → Moves (length input) (attempts_of (run rules input)) (length (finished rules input))
unfolding attempts_of
run-moves rules input =
    let t = run-taken rules input in
    rw (finished_is rules input, cuts-length t.cuts) (rounds-move t.rounds)

-- ---- kept step by step, the marks are those of the sources

any_same : (P Q : ℕ → Bool) (js : List ℕ) → All (λ j. P j ≡ Q j) js → any P js ≡ any Q js
any_same P Q [] h = refl
any_same P Q (j ∷ js) h = rw (h.0, any_same P Q js h.1)

all_map : {A : Type 0} (P Q : A → Type 0) → ((x : A) → P x → Q x) → (xs : List A) → All P xs → All Q xs
all_map P Q f [] h = tt
all_map P Q f (x ∷ xs) h = (f x h.0, all_map P Q f xs h.1)

module _ (i : ℕ) (js : List ℕ) (lines : Listing) (more : List Attempt) (q : ℕ) where
  -- where line p comes to, line i being joined into the lines js
  abbrev through : ℕ → Bool
  through p = comes_to (success i js lines ∷ more) p q

  abbrev later : ℕ → Bool
  later p = comes_to more (moved i p) q

  through_it : through i ≡ any later js
  unfolding comes_to when◌then◌else◌
  through_it = rw (eq-eqb i i refl)

  through_others : (p : ℕ) → (p ≡ i → ⊥) → through p ≡ later p
  unfolding comes_to when◌then◌else◌
  through_others p n = rw (ne_eqb p i n)

  step-hull : (n : ℕ) (ms : List Marks) → length ms ≡ n → i < n → Joined i n js
      → hull_of (λ p. comes_to more p q) (remove i (take_in (get_or ms i none) js ms)) ≡ hull_of through ms
  step-hull n ms e h j =
      let m : Marks = get_or ms i none in
      let inside : All (λ j. j < length ms) js = all_map _ _ (λ k b. omega (arith, b.1)) js j.each in
      let same : any (but i later) js ≡ through i =
      any_same (but i later) later js (all_map _ _ (λ k b. but_elsewhere i later k (λ z. omega (arith, b.0))) js j.each) ∙ sym through_it in
      hull_of-remove i (λ p. comes_to more p q) (take_in m js ms)
      ∙ hull_of-take_in (but i later) m js ms inside
      ∙ ap (λ (b : Bool). hull (hull_of (but i later) ms) (when b then m else none)) same
      ∙ ap (λ (k : Marks). hull k (when through i then m else none)) (hull_of_ext (but i later) (but i through) (but_same i later through (λ p z. sym (through_others p z))) ms)
      ∙ sym (hull_of-split i through ms (omega arith))

take_in-length : (m : Marks) (js : List ℕ) (ms : List Marks) → length (take_in m js ms) ≡ length ms
unfolding take_in
take_in-length m [] ms = refl
take_in-length m (j ∷ js) ms = take_in-length m js (modify j (λ n. hull n m) ms) ∙ length-modify (λ n. hull n m) j ms

joined_length : (n i : ℕ) (js : List ℕ) (ms : List Marks) → length ms ≡ suc n → i < suc n → length (remove i (take_in (get_or ms i none) js ms)) ≡ n
joined_length n i js ms e h =
    let same = take_in-length (get_or ms i none) js ms in
    omega (arith, length-remove i (take_in (get_or ms i none) js ms) (omega (arith, same)), same)

carry-length : {n m : ℕ} {attempts : List Attempt} → Moves n attempts m → (ms : List Marks) → length ms ≡ n → length (carry attempts ms) ≡ m
unfolding carry when◌then◌else◌
carry-length rest ms e = e
carry-length (stays p) ms e = carry-length p ms e
carry-length (joins {n = n} {i = i} {js = js} h j p) ms e = carry-length p _ (joined_length n i js ms e h)

carry_at : {n m : ℕ} {attempts : List Attempt} → Moves n attempts m → (ms : List Marks) → length ms ≡ n → (q : ℕ)
    → get_or (carry attempts ms) q none ≡ hull_of (λ p. comes_to attempts p q) ms
unfolding carry when◌then◌else◌ comes_to
carry_at rest ms e q = sym (hull_of_one q ms)
carry_at (stays p) ms e q = carry_at p ms e q
carry_at (joins {n = n} {i = i} {js = js} {lines = lines} {more = more} h j p) ms e q =
    carry_at p _ (joined_length n i js ms e h) q ∙ step-hull i js lines more q (suc n) ms e h j

pub own-length : (lines : Listing) (marks : List Marks) → length (own_marks lines marks) ≡ length lines
unfolding own_marks
own-length [] marks = refl
own-length (l ∷ ls) marks = ap suc (own-length ls (drop 1 marks))

own-hull : (P : ℕ → Bool) (lines : Listing) (marks : List Marks) → hull_of P (own_marks lines marks) ≡ span_of (added P lines marks)
unfolding own_marks added span_of
own-hull P [] marks = refl
own-hull P (l ∷ ls) marks =
    let xs : List ℕ = adds l (get_or marks 0 none) in
    let ys : List ℕ = added (λ p. P (suc p)) ls (drop 1 marks) in
    (λ i. hull (first (P 0) xs i) (own-hull (λ p. P (suc p)) ls (drop 1 marks) i)) ∙ sym (span_append (when P 0 then xs else []) ys)
  where
    first : (b : Bool) (xs : List ℕ) → (when b then span_of xs else none) ≡ span_of (when b then xs else [])
    first true xs = unfold when◌then◌else◌ in refl
    first false xs = unfold when◌then◌else◌ in refl

each-length : (f : ℕ → Marks) (lines : Listing) → length (of_each f lines) ≡ length lines
unfolding of_each
each-length f [] = refl
each-length f (l ∷ ls) = ap suc (each-length (λ q. f (suc q)) ls)

each_at : (f : ℕ → Marks) (lines : Listing) (q : ℕ) → q < length lines → get_or (of_each f lines) q none ≡ f q
unfolding of_each
each_at f [] q h = absurd (omega arith)
each_at f (l ∷ ls) zero h = refl
each_at f (l ∷ ls) (suc q) h = each_at (λ q. f (suc q)) ls q (omega arith)

-- THE MARKS KEPT STEP BY STEP ARE THOSE OF THE SOURCES
pub carried : (rules : Rules) (input : Listing) (marks : List Marks)
    → carry (attempts_of (run rules input)) (own_marks input marks) ≡ finished_marks rules input marks
unfolding finished_marks
carried rules input marks =
    let all : List Attempt = attempts_of (run rules input) in
    let own : List Marks = own_marks input marks in
    let moves = run-moves rules input in
    let by-sources : ℕ → Marks = (λ q. span_of (added (λ p. comes_to all p q) input marks)) in
    let same : length (carry all own) ≡ length (finished rules input) = carry-length moves own (own-length input marks) in
    ext_get_or none (carry all own) (of_each by-sources (finished rules input)) (same ∙ sym (each-length by-sources (finished rules input)))
    (λ q h.
    carry_at moves own (own-length input marks) q
    ∙ own-hull (λ p. comes_to all p q) input marks
    ∙ sym (each_at by-sources (finished rules input) q (omega arith)))

-- ONE FOR EACH FINISHED LINE
pub marks-length : (rules : Rules) (input : Listing) (marks : List Marks) → length (finished_marks rules input marks) ≡ length (finished rules input)
unfolding finished_marks
marks-length rules input marks = each-length _ (finished rules input)

-- ---- no instruction is lost

moved_inside : (n i p : ℕ) → p < suc n → i < suc n → (p ≡ i → ⊥) → moved i p < n
unfolding moved
moved_inside n i p h k z =
    by-if (λ (x : ℕ). x < n)
    (λ e. omega (arith, ltb-true i p e))
    (λ e. ⊎_elim (λ (same : p ≡ i). absurd (z same)) (λ (lt : p < i). omega arith) (eq-or-lt_of_le (ltb-false i p e)))

-- a line comes somewhere
abbrev Somewhere : List Attempt → ℕ → ℕ → Type 0
Somewhere attempts m p = (q : ℕ) × (q < m) × (comes_to attempts p q ≡ true)

module _ {n m i : ℕ} {js : List ℕ} (lines : Listing) (more : List Attempt) (k : i < suc n) (j : Joined i (suc n) js) (next : (p : ℕ) → p < n → Somewhere more m p) where
  first-target : (js : List ℕ) → Joined i (suc n) js → (q : ℕ) × (q < m) × (any (λ j. comes_to more (moved i j) q) js ≡ true)
  unfolding ◌or◌
  first-target [] j = absurd (omega (arith, j.some_line))
  first-target (x ∷ xs) j =
      let b = j.each.0 in
      let r = next (moved i x) (moved_inside n i x b.1 k (λ e. omega (arith, b.0))) in
      (r.0, r.1, rw r.2)

  somewhere_joined : (p : ℕ) → p < suc n → Somewhere (success i js lines ∷ more) m p
  somewhere_joined p h = go (eqb p i) refl
    where
      go : (b : Bool) → eqb p i ≡ b → Somewhere (success i js lines ∷ more) m p
      go true e = let r = first-target js j in (r.0, r.1, rw (eqb-true p i e) (through_it i js lines more r.0 ∙ r.2))
      go false e =
          let z = eqb-false p i e in
          let r = next (moved i p) (moved_inside n i p h k z) in
          (r.0, r.1, through_others i js lines more r.0 p z ∙ r.2)

comes_somewhere : {n m : ℕ} {attempts : List Attempt} → Moves n attempts m → (p : ℕ) → p < n → Somewhere attempts m p
unfolding comes_to when◌then◌else◌
comes_somewhere rest p h = (p, h, eq-eqb p p refl)
comes_somewhere (stays r) p h = comes_somewhere r p h
comes_somewhere (joins {lines = lines} {more = more} k j r) p h = somewhere_joined lines more k j (λ p h. comes_somewhere r p h) p h

next-mark : (marks : List Marks) (p : ℕ) → get_or (drop 1 marks) p none ≡ get_or marks (suc p) none
next-mark [] p = refl
next-mark (m ∷ ms) p = refl

added_covers : (P : ℕ → Bool) (lines : Listing) (marks : List Marks) (p : ℕ) → p < length lines → P p ≡ true
    → All (Covers (span_of (added P lines marks))) (adds (lines at p) (get_or marks p none))
unfolding added when◌then◌else◌
added_covers P [] marks p h e = absurd (omega arith)
added_covers P (l ∷ ls) marks zero h e =
    let xs : List ℕ = adds l (get_or marks 0 none) in
    let ys : List ℕ = added (λ p. P (suc p)) ls (drop 1 marks) in
    rw (e, span_append xs ys) (all_left (span_of xs) (span_of ys) xs (span_covers xs))
added_covers P (l ∷ ls) marks (suc p) h e =
    let xs : List ℕ = when P 0 then adds l (get_or marks 0 none) else [] in
    let ys : List ℕ = added (λ p. P (suc p)) ls (drop 1 marks) in
    let later = added_covers (λ p. P (suc p)) ls (drop 1 marks) p (omega arith) e in
    rw (span_append xs ys) (all_right (span_of xs) (span_of ys) (adds (ls at p) (get_or marks (suc p) none)) (rw (next-mark marks p) at later))

-- NO INSTRUCTION IS LOST: whatever addresses a line of the input has, its own and those of its 03, there is a finished line whose marks hold them all
pub nothing_lost : (rules : Rules) (input : Listing) (marks : List Marks) (p : ℕ) → p < length input
    → (q : ℕ) × (q < length (finished rules input)) × All (Covers (get_or (finished_marks rules input marks) q none)) (adds (input at p) (get_or marks p none))
unfolding finished_marks
nothing_lost rules input marks p h =
    let all : List Attempt = attempts_of (run rules input) in
    let r = comes_somewhere (run-moves rules input) p h in
    let q : ℕ = r.0 in
    let by-sources : ℕ → Marks = (λ q. span_of (added (λ p. comes_to all p q) input marks)) in
    (q, r.1, rw (each_at by-sources (finished rules input) q r.1) (added_covers (λ p. comes_to all p q) input marks p h r.2))

-- ---- the marks can be written, and read back

abbrev Small : ℕ → Type 0
Small a = a < 2 ^ 64

hull-fits : (m n : Marks) → MarksFit m → MarksFit n → MarksFit (hull m n)
unfolding hull
hull-fits none n f g = g
hull-fits (some s) none f g = f
hull-fits (some s) (some t) f g = ((omega (arith, f.0.0), omega (arith, f.0.1, g.0.1)), omega (arith, f.1, g.1))

span_fits : (xs : List ℕ) → All Small xs → MarksFit (span_of xs)
unfolding span_of
span_fits [] h = tt
span_fits (x ∷ xs) h = hull-fits (point x) (span_of xs) ((h.0, h.0), le_refl x) (span_fits xs h.1)

adds_fit : (l : Line) (m : Marks) → AddressFits l.address → MarksFit m → All Small (adds l m)
unfolding adds
adds_fit l m a f =
    all_append Small (let_some l.address else [] then λ a. a ∷ []) (let_some m else [] then λ s. s.lowest ∷ s.highest ∷ [])
    (of_address l.address a)
    (of_marks m f)
  where
    of_address : (o : Option ℕ) → AddressFits o → All Small (let_some o else [] then λ a. a ∷ [])
    of_address none a = unfold let_some◌else◌then◌ in tt
    of_address (some x) a = unfold let_some◌else◌then◌ in (a, tt)

    of_marks : (m : Marks) → MarksFit m → All Small (let_some m else [] then λ s. s.lowest ∷ s.highest ∷ [])
    of_marks none f = unfold let_some◌else◌then◌ in tt
    of_marks (some s) f = unfold let_some◌else◌then◌ in (f.0.0, (f.0.1, tt))

front_fits : (marks : List Marks) → All MarksFit marks → MarksFit (get_or marks 0 none) × All MarksFit (drop 1 marks)
front_fits [] f = (tt, tt)
front_fits (m ∷ ms) f = (f.0, f.1)

added-fits : (P : ℕ → Bool) (lines : Listing) (marks : List Marks) → All (λ l. AddressFits l.address) lines → All MarksFit marks → All Small (added P lines marks)
unfolding added
added-fits P [] marks a f = tt
added-fits P (l ∷ ls) marks a f =
    let g = front_fits marks f in
    all_append Small (when P 0 then adds l (get_or marks 0 none) else []) (added (λ p. P (suc p)) ls (drop 1 marks))
    (by-if (λ (xs : List ℕ). All Small xs) (λ e. adds_fit l (get_or marks 0 none) a.0 g.0) (λ e. tt))
    (added-fits (λ p. P (suc p)) ls (drop 1 marks) a.1 g.1)

each_fits : (f : ℕ → Marks) → ((q : ℕ) → MarksFit (f q)) → (lines : Listing) → All MarksFit (of_each f lines)
unfolding of_each
each_fits f h [] = tt
each_fits f h (l ∷ ls) = (h 0, each_fits (λ q. f (suc q)) (λ q. h (suc q)) ls)

pub finished-marks_fit : (rules : Rules) (input : Listing) (marks : List Marks) → All (λ l. AddressFits l.address) input → All MarksFit marks
    → All MarksFit (finished_marks rules input marks)
unfolding finished_marks
finished-marks_fit rules input marks a f =
    each_fits _ (λ q. span_fits (added (λ p. comes_to (attempts_of (run rules input)) p q) input marks) (added-fits _ input marks a f)) (finished rules input)

-- AN OUTPUT WITHIN THE LIMITS READS BACK: the finished listing, which is the Rust's, and its marks
pub output-reads-back : (rules : Rules) (tape : List ℕ) (input : Listing) → Bytes tape → read tape ≡ Passed input → TapeFits (finished rules input)
    → let marks = finished_marks rules input (marks_in tape) in
    (read (write (finished rules input) marks) ≡ Passed (finished rules input)) × (marks_in (write (finished rules input) marks) ≡ marks)
output-reads-back rules tape input h e f =
    let marks = marks_in tape in
    read-write (finished rules input) (finished_marks rules input marks) f
    (finished-marks_fit rules input marks (read_fits tape input h e).addresses (read-marks_fit tape input h e).0)
    (marks-length rules input marks)
