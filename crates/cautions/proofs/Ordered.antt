-- In the profile of straight pieces no kind of order or grouping is raised (`in_order`): no line calls, no expression reads memory, and each use groups as it
-- did (Grouped). Assumes nothing.
use Prim.Native.Nat.{ℕ, zero, suc, ◌+◌, ◌<◌, ◌≤◌}
use native.Mathlib.Omega.{arith}
use mathlib.Core.Path.{◌≡◌, refl, sym, ap, ◌∙◌, subst}
use mathlib.Core.Bool.{Bool, true, false}
use mathlib.Core.List.{List, [], ◌∷◌, ◌++◌, map, flatten}
use mathlib.Core.Option.{Option, none, some}
use lib.Dec.{eqb}
use lib.ListN.{length, get_or, drop, take, length-map}
use Rattle.std.proofs.lemmas.List.{get_or_past}
use lib.Seq.{slice}
use borrow.Author.Tests.{ne_eqb}
use Rattle.reference.specs.Control.{not, ◌and◌, when◌then◌else◌, let_some◌else◌then◌}
use Rattle.reference.specs.Lists.{any, position, pairs_from, is_some, get}
use Rattle.reference.specs.Text.{Text, has}
use Rattle.reference.specs.Listing.{Token, is, Register, Number, Keyword, Symbol, Address, Punct, Line, Listing, ◌at◌}
use Rattle.reference.specs.Names.{Fam, family}
use Rattle.reference.specs.Rules.{Rules, volatile}
use Rattle.reference.specs.Shapes.{Assignment, assignment, assignment_of, is_kw, calls_here, call_in, call_at}
use Rattle.reference.specs.Life.{Labels}
use Rattle.reference.specs.Join.{text_before, text_after, text_or_empty, written_from, bad_use, propagate_constant, join_one, join_at, use_from, replaceable, lone_number, try_at, targets}
use Rattle.reference.specs.Run.{Attempt, success, labels_from, dead_result, after_attempts, after_rounds, run, attempts_of}
use Rattle.reference.specs.Marks.{moved, comes_to}
use Rattle.reference.specs.Demand.{Attempts, over, failed, succeeded, Rounds, enough, ended, again}
use Rattle.reference.specs.Evaluators.{Store}
use Rattle.reference.proofs.Cases.{by-if, by-some, neither, both, pair, not-true, true-false, none-some, if_some, unless-some, bind-some}
use Rattle.reference.proofs.Shapes.{other_kind, Assigning, assigning-register, assigns as assigns_of}
use Rattle.reference.proofs.Attempts.{all_uses, one_use, by_targets}
use Rattle.reference.proofs.Limits.{All}
use Rattle.reference.proofs.Rounds.{run-taken}
use Rattle.laws.proofs.Scans.{if-false, or_false, and_false}
use Rattle.straight.proofs.Reader.{State, first, wants, holds, broken, token-step, run-tokens}
use Rattle.straight.proofs.Machine.{run-broken, Step, punct, register, number, breaks as breaks_token, step_of}
use Rattle.straight.proofs.Substituting.{wide-register, number_kind}
use Rattle.straight.proofs.Expression.{Worth, assigned-worth}
use Rattle.straight.proofs.Flow.{Assigns, assigns, Returns, returns, Straight, last, next}
use Rattle.straight.proofs.Life.{lhs_is, assigns-no_call, returns-no_call}
use Rattle.straight.proofs.Profile.{straight_of}
use Rattle.straight.proofs.Attempt.{profile-suited, attempt_keeps}
use Rattle.cautions.specs.Kinds.{odd_form, still_read, overwritten, call_moved, read_moved, other_width, other_text, odd_number, slot, handed_over}
use Rattle.cautions.specs.Kinds.{◌∪◌, ◌⊆◌, ◌given◌, union}
use Rattle.cautions.specs.Forms.{Ways, places}
use Rattle.cautions.specs.Values.{reads_world, changeable, acts_beside}
use Rattle.cautions.specs.Uses.{is_apart, places_of, moves_call, moves_read, use_cautions}
use Rattle.cautions.specs.Joins.{past_call, line_cautions, uses_cautions, none_yet, put, spread, join_cautions}
use Rattle.cautions.specs.Cautions.{picked, joined, Cut, cuts_made, with_cuts, uncut, cuts_of, finished_cautions, VALUES, InOrder}
use Rattle.cautions.proofs.Carried.{by_place_at, places_from-length}
use Rattle.cautions.proofs.Grouped.{zeros, AllApart, LineApart, First, line_apart, line_first, grouped}
use Rattle.cautions.proofs.Sets.{union_in, given_in, picked_in}

-- ---- expressions

-- what does not break the reader holds Registers, Numbers and Puncts only
kinds_of : (σ : Store) (k : ℕ) → eqb Punct k ≡ false → eqb Register k ≡ false → eqb Number k ≡ false → (ts : List Token) (s : State)
    → (run-tokens σ ts s ≡ broken → ⊥) → any (is k) ts ≡ false
unfolding run-tokens
kinds_of σ k hp hr hn [] s h = refl
kinds_of σ k hp hr hn (t ∷ ts) s h = or_false _ (go (step_of σ t)) ∙ kinds_of σ k hp hr hn ts (token-step σ t s) h
  where
    go : Step σ t → is k t ≡ false
    go (punct p) = other_kind Punct k t hp p
    go (register y w) = other_kind Register k t hr (wide-register t y w)
    go (number z n) = other_kind Number k t hn (number_kind t z n)
    go (breaks_token f) = absurd (h (ap (run-tokens σ ts) (f σ s) ∙ run-broken σ ts))

unbroken : {v : ℕ} → holds v [] ≡ broken → ⊥
unbroken e = let z : ◌≡◌ {A = ℕ} 0 1 = cc in omega arith

-- the right side of a line in the profile is worth something, and has no Symbol, no Keyword and no Address
pub record Silent (expr : List Token) : Type 0 where
  pub value : ℕ
  pub worth : Worth zeros expr value
  pub no_symbol : any (is Symbol) expr ≡ false
  pub no_keyword : any (is Keyword) expr ≡ false
  pub no_address : any (is Address) expr ≡ false

silent_of : (expr : List Token) (v : ℕ) → Worth zeros expr v → Silent expr
silent_of expr v w =
    let alive : run-tokens zeros expr (wants first []) ≡ broken → ⊥ = λ e. unbroken (sym w ∙ e) in
    record {
      value = v;
      worth = w;
      no_symbol = kinds_of zeros Symbol refl refl refl expr (wants first []) alive;
      no_keyword = kinds_of zeros Keyword refl refl refl expr (wants first []) alive;
      no_address = kinds_of zeros Address refl refl refl expr (wants first []) alive;
    }

pub assigned_silent : (ts : List Token) (y : Text) {to : Assignment} → Assigns ts y → Assigning ts to → Silent to.expr
assigned_silent [] y {to = to} x' s = elim x' [ ]
assigned_silent (t ∷ ts) y {to = to} (assigns w r a) s = silent_of to.expr (r zeros).0 (assigned-worth zeros (r zeros).0 s (r zeros).1)

no_calls : (t : Token) (ts : List Token) → any (is Symbol) (t ∷ ts) ≡ false → any (is Keyword) (t ∷ ts) ≡ false
    → position calls_here (pairs_from t ts) ≡ none
unfolding calls_here let_some◌else◌then◌
no_calls t [] es ek = refl
no_calls t (u ∷ us) es ek =
    let ns = neither es in
    let nk = neither ek in
    if-false _ _ (or_false _ (and_false _ ns.0) ∙ and_false _ nk.0) ∙ rw (no_calls u us ns.1 nk.1) refl

silent_calls : (expr : List Token) → Silent expr → call_in expr ≡ none
unfolding call_in
silent_calls [] s = refl
silent_calls (t ∷ ts) s = no_calls t ts s.no_symbol s.no_keyword

silent_world : (before : Text) (expr : List Token) → any (is Symbol) expr ≡ false → any (is Keyword) expr ≡ false → reads_world before expr ≡ false
unfolding reads_world
silent_world before [] es ek = refl
silent_world before (t ∷ ts) es ek =
    let ns = neither es in
    let nk = neither ek in
    or_false _ (and_false _ nk.0) ∙ or_false _ (and_false _ ns.0) ∙ silent_world t.text ts ns.1 nk.1

-- ---- lines

pub no_call : {indent : ℕ} {lines : Listing} (j : ℕ) → Straight indent lines → call_in (lines at j).tokens ≡ none
unfolding call_in
no_call zero (last {l = l} e r) = returns-no_call l.tokens r
no_call (suc j) (last e r) = refl
no_call zero (next {l = l} y e a more) = assigns-no_call l.tokens y a
no_call (suc j) (next y e a more) = no_call j more

calls : Line → Bool
calls l = is_some (call_in l.tokens)

any_drop : (n : ℕ) (lines : Listing) → any calls lines ≡ false → any calls (drop n lines) ≡ false
any_drop zero lines e = e
any_drop (suc n) [] e = e
any_drop (suc n) (l ∷ lines) e = any_drop n lines (neither {a = calls l} {b = any calls lines} e).1

any_take : (n : ℕ) (lines : Listing) → any calls lines ≡ false → any calls (take n lines) ≡ false
any_take zero lines e = refl
any_take (suc n) [] e = refl
any_take (suc n) (l ∷ lines) e = let b = neither {a = calls l} {b = any calls lines} e in or_false _ b.0 ∙ any_take n lines b.1

no_line_calls : {indent : ℕ} {lines : Listing} → Straight indent lines → any calls lines ≡ false
unfolding calls
no_line_calls (last {l = l} e r) = or_false _ (ap is_some (returns-no_call l.tokens r))
no_line_calls (next {l = l} y e a more) = or_false _ (ap is_some (assigns-no_call l.tokens y a)) ∙ no_line_calls more

-- ---- one step

record Fine (s : ℕ) : Type 0 where
  within : s ⊆ VALUES

abbrev AllFine : List ℕ → Type 0
AllFine ss = (q : ℕ) → Fine (get_or ss q 0)

or_fine : {a b : ℕ} → Fine a → Fine b → Fine (a ∪ b)
or_fine {a} {b} p q = record { within = union_in a b VALUES p.within q.within }

given_fine : (s : ℕ) (b : Bool) → Fine s → Fine (s given b)
given_fine s b h = record { within = given_in s VALUES b (λ e. h.within) }

never : (s : ℕ) (b : Bool) → b ≡ false → Fine (s given b)
never s b f = record { within = given_in s VALUES b (λ e. absurd (true-false e f)) }

kind : (s : ℕ) → s ⊆ VALUES → Fine s
kind s h = record { within = h }

nothing : Fine 0
nothing = record { within = refl }

union_fine {ℓ} : {A : Type ℓ} (f : A → ℕ) → ((x : A) → Fine (f x)) → (xs : List A) → Fine (union (map f xs))
unfolding union
union_fine f h [] = nothing
union_fine f h (x ∷ xs) = or_fine (h x) (union_fine f h xs)

put_fine : (s : ℕ) (js : List ℕ) → Fine s → (p : ℕ) (ts : List ℕ) → AllFine ts → AllFine (put s js p ts)
unfolding put
put_fine s js h p [] g q = nothing
put_fine s js h p (t ∷ ts) g zero = or_fine (g 0) (given_fine s _ h)
put_fine s js h p (t ∷ ts) g (suc q) = put_fine s js h (suc p) ts (λ q. g (suc q)) q

none_fine : (lines : Listing) → AllFine (none_yet lines)
none_fine [] q = nothing
none_fine (l ∷ lines) zero = nothing
none_fine (l ∷ lines) (suc q) = none_fine lines q

spread_fine : (rules : Rules) (lines : Listing) (ways : Ways) (i : ℕ) (fam : Text) (far : List ℕ) (s : ℕ) (into : List ℕ) (self : Bool) → Fine s
    → AllFine (spread rules lines ways i fam far s into self)
unfolding spread
spread_fine rules lines ways i fam far s into self h =
    put_fine odd_form _ (kind odd_form refl) 0 _
    (put_fine still_read _ (kind still_read refl) 0 _
    (put_fine _ into
    (or_fine h
    (or_fine (given_fine odd_form _ (kind odd_form refl))
    (or_fine (given_fine still_read _ (kind still_read refl)) (given_fine handed_over _ (kind handed_over refl)))))
    0 _ (none_fine lines)))

union_all : (f : ℕ → ℕ) (xs : List ℕ) → All (λ x. Fine (f x)) xs → Fine (union (map f xs))
unfolding union
union_all f [] h = nothing
union_all f (x ∷ xs) h = or_fine h.0 (union_all f xs h.1)

-- ---- the places of a family in a line

before-suc : (full : List Token) (p : ℕ) → text_before full (suc p) ≡ text_or_empty (get full p)
unfolding text_before
before-suc full p = if-false _ _ (ne_eqb (suc p) 0 (λ e. omega arith)) ∙ ap (λ (m : ℕ). text_or_empty (get full m)) (omega arith)

module _ (x : Text) (full : List Token) (g : ℕ → ℕ) (h : (u : ℕ) → is_apart (text_before full u) (text_after full u) ≡ true → Fine (g u)) where
  places_fine : (p : ℕ) (b : Token) (ws : List Token) → text_before full p ≡ b.text → ((k : ℕ) → get full (p + k) ≡ get ws k) → AllApart x b ws
      → Fine (union (map g (places_of x p ws)))
  unfolding places_of union text_after let_some◌else◌then◌
  places_fine p b [] e f a = nothing
  places_fine p b (w ∷ ws) e f a =
      let one : p + 1 ≡ suc p = omega arith in
      let none : p + 0 ≡ p = omega arith in
      let behind : text_after full p ≡ text_or_empty (get ws 0) = ap text_or_empty (ap (get full) (sym one) ∙ f 1) in
      let rest = places_fine (suc p) w ws (before-suc full p ∙ ap text_or_empty (ap (get full) (sym none) ∙ f 0))
      (λ k. (let z : suc p + k ≡ p + suc k = omega arith in ap (get full) z ∙ f (suc k))) a.1 in
      by-if (λ (us : List ℕ). Fine (union (map g us)))
      (λ c. or_fine (h p (ap (λ (s : Text). is_apart s (text_after full p)) e ∙ ap (is_apart b.text) behind ∙ a.0 c)) rest)
      (λ c. rest)

  line_places : LineApart x full → First x full → Fine (union (map g (places_of x 0 full)))
  unfolding let_some◌else◌then◌
  line_places a n = go full refl a n
    where
      go : (ts : List Token) → full ≡ ts → LineApart x ts → First x ts → Fine (union (map g (places_of x 0 ts)))
      go [] e a n = unfold places_of union in nothing
      go (t ∷ ts) e a n =
          unfold places_of in
          by-if (λ (us : List ℕ). Fine (union (map g us))) (λ c. absurd (true-false c n))
          (λ c.
          places_fine 1 t ts (before-suc full 0 ∙ ap (λ (us : List Token). text_or_empty (get us 0)) e)
          (λ k. (let z : 1 + k ≡ suc k = omega arith in ap (get full) z ∙ ap (λ (us : List Token). get us (suc k)) e)) a)

module _ {indent : ℕ} (rules : Rules) (on : rules.profile ≡ true) (lines : Listing) (st : Straight indent lines) (f : Fam) (expr : List Token) (silent : Silent expr) where
  nothing_beside : (j u : ℕ) → acts_beside (lines at j).tokens u ≡ false
  unfolding acts_beside let_some◌else◌then◌
  nothing_beside j u = rw (no_call j st) refl

  use_fine : (j u : ℕ) (passed : Listing) (new : List Token) → is_apart (text_before (lines at j).tokens u) (text_after (lines at j).tokens u) ≡ true
      → Fine (use_cautions rules f expr (lines at j).tokens u passed new)
  unfolding use_cautions moves_call moves_read
  use_fine j u passed new apart =
      let ts : List Token = (lines at j).tokens in
      or_fine (never overwritten (has (volatile rules) f.name and acts_beside ts u) (and_off (has (volatile rules) f.name) (acts_beside ts u) (nothing_beside j u)))
      (or_fine (never call_moved (moves_call rules f expr ts u) (and_false _ (ap is_some (silent_calls expr silent))))
      (or_fine
      (never read_moved (moves_read rules f expr ts u passed)
      (or_false _ (and_off (changeable (volatile rules) expr) (acts_beside ts u) (nothing_beside j u))
      ∙ and_false _ (silent_world [] expr silent.no_symbol silent.no_keyword)))
      (or_fine (given_fine other_width _ (kind other_width refl))
      (never other_text _ (not_off _ (pair apart (grouped rules on f expr ts u silent.value silent.worth silent.no_address silent.no_keyword)))))))
    where
      and_off : (a b : Bool) → b ≡ false → (a and b) ≡ false
      and_off true b e = unfold ◌and◌ in e
      and_off false b e = unfold ◌and◌ in refl

      not_off : (b : Bool) → b ≡ true → not b ≡ false
      not_off true e = unfold not in refl
      not_off false e = absurd (true-false e refl)

  line_fine : (ways : Ways) (i j : ℕ) (new : List Token) → written_from f.name (lines at j).tokens ≡ false → Fine (line_cautions rules lines ways i f expr j new)
  unfolding line_cautions
  line_fine ways i j new w =
      or_fine (given_fine odd_number _ (kind odd_number refl))
      (line_places f.name (lines at j).tokens _ (λ u a. use_fine j u _ new a) (line_apart f.name j st) (line_first f.name j st w))

  none_past : (ways : Ways) (i until : ℕ) → past_call rules lines ways i f expr until ≡ false
  unfolding past_call calls
  none_past ways i until = go (has (volatile rules) f.name) (suc i) until
    where
      go : (b : Bool) (m n : ℕ) → (b and any calls (slice m n lines)) ≡ false
      go true m n = unfold ◌and◌ in any_drop m (take n lines) (any_take n lines (no_line_calls st))
      go false m n = unfold ◌and◌ in refl

  uses_fine : (ways : Ways) (i : ℕ) (into : List ℕ) (left : Listing) → All (λ j. written_from f.name (lines at j).tokens ≡ false) into
      → Fine (uses_cautions rules lines ways i f expr into left)
  unfolding uses_cautions
  uses_fine ways i into left w =
      or_fine (given_fine odd_form _ (kind odd_form refl))
      (or_fine (never overwritten (past_call rules lines ways i f expr _) (none_past ways i _))
      (or_fine (given_fine slot _ (kind slot refl)) (union_all _ into (each into w))))
    where
      each : (js : List ℕ) → All (λ j. written_from f.name (lines at j).tokens ≡ false) js
          → All (λ j. Fine (line_cautions rules lines ways i f expr j (left at moved i j).tokens)) js
      each [] w = tt
      each (j ∷ js) w = (line_fine ways i j (left at moved i j).tokens w.0, each js w.1)

empty_fine : AllFine []
empty_fine q = nothing

no_return : (ts : List Token) {to : Assignment} → Returns ts → Assigning ts to → ⊥
unfolding is_kw
no_return [] {to = to} x'' s = elim x'' [ ]
no_return (t ∷ ts) (returns w r a) s =
    true-false (both w).0 (other_kind Register Keyword t refl (ap (is Register) (sym (lhs_is s t ts refl)) ∙ assigning-register s))

pub line_silent : {indent : ℕ} {lines : Listing} (i : ℕ) → Straight indent lines → (to : Assignment) → assignment_of (lines at i).tokens ≡ some to → Silent to.expr
unfolding assignment_of
line_silent zero (last {l = l} e r) to h = absurd (no_return l.tokens r (assigns_of l.tokens to h))
line_silent (suc i) (last e r) to h = absurd (none-some h)
line_silent zero (next {l = l} y e a more) to h = assigned_silent l.tokens y a (assigns_of l.tokens to h)
line_silent (suc i) (next y e a more) to h = line_silent i more to h

-- none of the lines that it is joined into writes the register
Unwritten : Listing → Attempt → Type 0
Unwritten lines a =
    (to : Assignment) (f : Fam) → assignment (lines at a.line) ≡ some to → family to.lhs.text ≡ some f
    → All (λ j. written_from f.name (lines at j).tokens ≡ false) a.into

join_fine : {indent : ℕ} (rules : Rules) → rules.profile ≡ true → (lines : Listing) → Straight indent lines → (a : Attempt) → Unwritten lines a
    → AllFine (join_cautions rules lines a)
unfolding join_cautions Unwritten
join_fine rules on lines st a u =
    by-some AllFine (λ n. empty_fine)
    (λ s e. by-some AllFine (λ n. empty_fine)
    (λ f g.
    spread_fine rules lines _ a.line f.name _ _ a.into false
    (uses_fine rules on lines st f s.expr (line_silent a.line st s e) _ a.line a.into a.left (u s f e g))))

none_any : (p q : ℕ → Bool) → ((j : ℕ) → p j ≡ false → q j ≡ false) → (js : List ℕ) → any p js ≡ false → All (λ j. q j ≡ false) js
none_any p q h [] e = tt
none_any p q h (j ∷ js) e = let b = neither {a = p j} {b = any p js} e in (h j b.0, none_any p q h js b.1)

not_found : {A : Type 0} (b : Bool) (o : Option A) → (when b then o else none) ≡ none → (b and is_some o) ≡ false
unfolding when◌then◌else◌ ◌and◌
not_found true none e = refl
not_found true (some a) e = absurd (none-some (sym e))
not_found false o e = refl

pub single_use : (rules : Rules) (lines : Listing) (i : ℕ) (f : Fam) (expr : List Token) {j : ℕ}
    → use_from (lines at i).indent f.name expr (is_some (call_at (lines at i))) (volatile rules) (suc i) (drop (suc i) lines) ≡ some j
    → one_use lines i f expr (volatile rules) ≡ j ∷ []
unfolding let_some◌else◌then◌
single_use rules lines i f expr e = rw e refl

-- as no success joins into such a line
module _ (rules : Rules) (lines : Listing) (i : ℕ) (labels : Labels) {lines' : Listing} where
  of_constant : (f : Fam) (expr : List Token) → propagate_constant rules.edition lines i f.name expr labels (volatile rules) ≡ some lines'
      → All (λ j. written_from f.name (lines at j).tokens ≡ false) (all_uses lines i f (volatile rules))
  unfolding propagate_constant bad_use
  of_constant f expr e =
      none_any (λ j. bad_use f.name (lines at j).tokens) (λ j. written_from f.name (lines at j).tokens) (λ j h. (neither h).0)
      (all_uses lines i f (volatile rules))
      (unless-some (unless-some e).1).0

  of_single : (f : Fam) (expr : List Token) → join_one rules lines i f expr labels (volatile rules) ≡ some lines'
      → All (λ j. written_from f.name (lines at j).tokens ≡ false) (one_use lines i f expr (volatile rules))
  unfolding join_one join_at replaceable
  of_single f expr e =
      let u = bind-some e in
      let p = bind-some (unless-some u.2).1 in
      let fits = (if_some p.2).0 in
      subst (λ (js : List ℕ). All (λ j. written_from f.name (lines at j).tokens ≡ false) js) (sym (single_use rules lines i f expr u.1))
      (not-true (both (both (both fits).1).1).1, tt)

  unwritten_into : (addressed : List Text) → try_at rules lines i labels addressed ≡ some lines' → Unwritten lines (success i (targets rules lines i labels) lines')
  unfolding try_at Unwritten let_some◌else◌then◌
  unwritten_into addressed e to f ea ef =
      let P : List ℕ → Type 0 = λ js. All (λ j. written_from f.name (lines at j).tokens ≡ false) js in
      let constant = propagate_constant rules.edition lines i f.name to.expr labels (volatile rules) in
      by-some (λ (o : Option Listing). o ≡ some lines' → P (targets rules lines i labels))
      (λ n u. by_targets rules lines i labels P to f ea ef
      (λ t. absurd (true-false t (not_found (lone_number to.expr) constant n)))
      (λ t. of_single f to.expr u))
      (λ l h u. (let c = if_some (h ∙ u) in
      by_targets rules lines i labels P to f ea ef
      (λ t. of_constant f to.expr c.1)
      (λ t. absurd (true-false (pair c.0 (ap is_some c.1)) t))))
      (unless-some (rw (ea, ef) at e)).1

picked_fine : (P : ℕ → Bool) (ss : List ℕ) → AllFine ss → Fine (picked P ss)
picked_fine P ss h = record { within = picked_in P ss VALUES (λ p e. (h p).within) }

-- ---- the run

module _ (indent : ℕ) (rules : Rules) (on : rules.profile ≡ true) (q : ℕ) where
  -- the attempts of a round, and others behind them
  round_fine : {addressed : List Text} {i : ℕ} {lines : Listing} {labels : Labels} {round : List Attempt} → Attempts rules addressed i lines labels round
      → Straight indent lines → (more : List Attempt)
      → (Straight indent (after_attempts lines round) → Fine (joined rules (after_attempts lines round) more q)) → Fine (joined rules lines (round ++ more) q)
  unfolding joined after_attempts when◌then◌else◌
  round_fine (over h) st more f = f st
  round_fine (failed h e rest) st more f = round_fine rest st more f
  round_fine {addressed = addressed} (succeeded {i = i} {lines = lines} {lines' = lines'} {labels = labels} {more = tail} h e rest) st more f =
      let left : Straight indent lines' = (attempt_keeps rules lines i (profile-suited rules on lines i) indent st labels addressed e).0 in
      let a : Attempt = success i (targets rules lines i labels) lines' in
      or_fine (picked_fine (λ p. comes_to (a ∷ tail ++ more) p q) (join_cautions rules lines a)
      (join_fine rules on lines st a (unwritten_into rules lines i labels addressed e)))
      (round_fine rest left more f)

  round_straight : {addressed : List Text} {i : ℕ} {lines : Listing} {labels : Labels} {round : List Attempt} → Attempts rules addressed i lines labels round
      → Straight indent lines → Straight indent (after_attempts lines round)
  unfolding after_attempts
  round_straight (over h) st = st
  round_straight (failed h e rest) st = round_straight rest st
  round_straight {addressed = addressed} (succeeded {i = i} {lines = lines} {labels = labels} h e rest) st =
      round_straight rest (attempt_keeps rules lines i (profile-suited rules on lines i) indent st labels addressed e).0

  rounds_fine : {limit : ℕ} {lines : Listing} {rounds : List (List Attempt)} → Rounds rules limit lines rounds → Straight indent lines
      → Fine (joined rules lines (flatten rounds) q)
  unfolding flatten joined
  rounds_fine enough st = nothing
  rounds_fine (ended r e) st = round_fine r st [] (λ s. nothing)
  rounds_fine (again {more = more} r e rest) st = round_fine r st (flatten more) (λ s. rounds_fine rest s)

  rounds_straight : {limit : ℕ} {lines : Listing} {rounds : List (List Attempt)} → Rounds rules limit lines rounds → Straight indent lines
      → Straight indent (after_rounds lines rounds)
  unfolding after_rounds
  rounds_straight enough st = st
  rounds_straight (ended r e) st = round_straight r st
  rounds_straight (again r e rest) st = rounds_straight rest (round_straight r st)

-- nothing is cut
no_cut : {indent : ℕ} (rules : Rules) (labels : Labels) (n i : ℕ) (lines : Listing) → Straight indent lines → cuts_made rules labels n i lines ≡ []
unfolding cuts_made dead_result let_some◌else◌then◌ ◌and◌
no_cut rules labels zero i lines st = refl
no_cut rules labels (suc n) i lines st =
    if-false _ _ (rw (no_call i st) refl) ∙ no_cut rules labels n (suc i) lines st

-- IN THE PROFILE NO KIND OF ORDER OR GROUPING IS RAISED
pub in_order : (rules : Rules) (input : Listing) → InOrder rules input
unfolding finished_cautions with_cuts attempts_of
in_order rules input on h q =
    let s = straight_of input h in
    let indent : ℕ = s.0 in
    let after : Listing = uncut rules input in
    let taken = run-taken rules input in
    let made : cuts_of rules input ≡ [] =
    no_cut rules (labels_from 0 after) (length after) 0 after (rounds_straight indent rules on q taken.rounds s.1) in
    let f : ℕ → ℕ = joined rules input (attempts_of (run rules input)) in
    subst (λ (cs : List Cut). get_or (with_cuts rules cs (map f (places after))) q 0 ⊆ VALUES) (sym made)
    (by_place (get_or (map f (places after)) q 0 ⊆ VALUES) (length after) q
    (λ (le : length after ≤ q). subst (λ (x : ℕ). x ⊆ VALUES) (sym (get_or_past (map f (places after)) q 0 (few f after q le))) refl)
    (λ (lt : q < length after). subst (λ (x : ℕ). x ⊆ VALUES) (sym (by_place_at f after q lt)) (rounds_fine indent rules on q taken.rounds s.1).within))
  where
    by_place : (P : Type 0) (n q : ℕ) → (n ≤ q → P) → (q < n → P) → P
    by_place P zero q f g = f (omega arith)
    by_place P (suc n) zero f g = g (omega arith)
    by_place P (suc n) (suc q) f g = by_place P n q (λ h. f (omega arith)) (λ h. g (omega arith))

    few : (f : ℕ → ℕ) (lines : Listing) (q : ℕ) → length lines ≤ q → length (map f (places lines)) ≤ q
    few f lines q h = let a = length-map (places lines) f in let b = places_from-length 0 lines in omega (arith, a, b)
