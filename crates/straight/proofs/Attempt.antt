-- One attempt on a straight listing, where the right side suits its use: the listing that it leaves is straight and returns the same. Assumes nothing.
use Prim.Native.Nat.{ℕ, zero, suc, ◌+◌, ◌<◌}
use native.Mathlib.Omega.{arith}
use mathlib.Core.Path.{◌≡◌, refl, sym, ap, ◌∙◌, subst, subst⁻¹}
use mathlib.Core.Bool.{Bool, true, false, false≢true}
use mathlib.Core.List.{List, [], ◌∷◌}
use mathlib.Core.Option.{Option, some}
use lib.ListN.{length, drop}
use lib.Seq.{slice}
use Rattle.reference.specs.Lists.{any, position, is_some, remove}
use Rattle.reference.specs.Text.{Text}
use Rattle.reference.specs.Listing.{Token, is, Register, Number, Keyword, Line, Listing, ◌at◌}
use Rattle.reference.specs.Names.{Fam, family, of_family}
use Rattle.reference.specs.Rules.{Rules, volatile}
use Rattle.reference.specs.Shapes.{Assignment, assignment_of, call_in, is_kw}
use Rattle.reference.specs.Life.{Labels}
use Rattle.reference.specs.Join.{gather, bad_use, use_from, replaceable, lone_number, try_at}
use Rattle.reference.specs.Evaluators.{modulo, Store}
use Rattle.reference.specs.Straight.{assign, line_step, execute}
use Rattle.reference.proofs.Cases.{by-some, both, neither, not-true, not-false, true-false, some_inj, if_some, unless-some, bind-some}
use Rattle.reference.proofs.Shapes.{other_kind, Assigning, assigning-register, assigns as assigns_of}
use Rattle.reference.proofs.Lines.{drop-step}
use Rattle.joining.specs.Plan.{Definition, definition_of, Plan, Reach, reach_of, refuses, all_take, plan_reach, plan_constant, use_of, wants_brackets, plan_use, plan_single, plan_for, decide}
use Rattle.joining.specs.Plan.{map_from, acted_line, act}
use Rattle.joining.proofs.Reaching.{gathered, reach-last, gathered_uses}
use Rattle.joining.proofs.Taking.{refused}
use Rattle.joining.proofs.Deciding.{inside, tried}
use Rattle.straight.proofs.Expression.{Worth, assigned-worth}
use Rattle.straight.proofs.Flow.{Assigns, assigns, Returns, returns, Straight, last, next, executes, joined_same}
use Rattle.straight.proofs.Life.{lhs_is}
use Rattle.straight.proofs.Joining.{Suits, profile-suits, Defines, before_line, assigned-family, After, single-after, constant-after}

-- a listing against another: straight, and returning the same
abbrev pub Keeps : ℕ → Listing → Listing → Type 0
Keeps indent ls ms = Straight indent ms × ((σ : Store) → execute modulo σ ms ≡ execute modulo σ ls)

-- ---- a line taken out

module _ (indent i : ℕ) (f : ℕ → Line → Line) (early : (m : ℕ) (l : Line) → m < i → f m l ≡ l) where
  removal : (n k : ℕ) {ls : Listing} → Straight indent ls → n < length ls → i ≡ k + n
      → ((l : Line) (rest : Listing) → drop n ls ≡ l ∷ rest → Straight indent (l ∷ rest) → Keeps indent (l ∷ rest) (map_from f (suc i) rest))
      → Keeps indent ls (remove n (map_from f k ls))
  unfolding execute
  removal zero k (last {l = l} il r) lt e h =
      let same : i ≡ k = omega arith in
      subst (λ (j : ℕ). Keeps indent (l ∷ []) (map_from f (suc j) [])) same (h l [] refl (last il r))
  removal zero k (next {l = l} {ls = ls} y il a more) lt e h =
      let same : i ≡ k = omega arith in
      subst (λ (j : ℕ). Keeps indent (l ∷ ls) (map_from f (suc j) ls)) same (h l ls refl (next y il a more))
  removal (suc n) k (last il r) lt e h = absurd (omega arith)
  removal (suc n) k (next {l = l} {ls = ls} y il a more) lt e h =
      let ih = removal n (suc k) more (omega arith) (omega arith) h in
      subst⁻¹ (λ (m : Line). Keeps indent (l ∷ ls) (m ∷ remove n (map_from f (suc k) ls))) (early k l (omega arith))
      (next y il a ih.0, λ σ. ap (line_step modulo σ l.tokens) (λ j τ. ih.1 τ j))

-- ---- the definition

-- the line of an assignment: what it assigns, and what it does
defines : (ts : List Token) (y : Text) {to : Assignment} → Assigns ts y → Assigning ts to
    → (d : Defines y to.expr) × ((σ : Store) (k : Store → Option ℕ) → line_step modulo σ ts k ≡ k (assign y (d.value σ) σ))
defines [] y {to = to} x'' s = elim x'' [ ]
defines (t ∷ ts) y (assigns w r a) s =
    (record { value = λ σ. (r σ).0; worth = λ σ. assigned-worth σ (r σ).0 s (r σ).1 }, λ σ k. executes σ t ts y (r σ).0 k w (r σ).1)

no_return : (ts : List Token) {to : Assignment} → Returns ts → Assigning ts to → ⊥
unfolding is_kw
no_return [] {to = to} x'' s = elim x'' [ ]
no_return (t ∷ ts) (returns w r a) s =
    true-false (both w).0 (other_kind Register Keyword t refl (ap (is Register) (sym (lhs_is s t ts refl)) ∙ assigning-register s))

-- the right side that line i assigns suits the one use of its register, if there is one
abbrev pub Suited : Rules → Listing → ℕ → Type 0
Suited rules lines i =
    (to : Assignment) (f : Fam) → assignment_of (lines at i).tokens ≡ some to → family to.lhs.text ≡ some f
    → (j pos : ℕ) → use_from (lines at i).indent f.name to.expr (is_some (call_in (lines at i).tokens)) (volatile rules) (suc i) (drop (suc i) lines) ≡ some j
    → position (of_family f.name) (lines at j).tokens ≡ some pos → Suits rules to.expr (lines at j).tokens pos

pub profile-suited : (rules : Rules) → rules.profile ≡ true → (lines : Listing) (i : ℕ) → Suited rules lines i
profile-suited rules on lines i to f ea ef j pos u found = profile-suits rules on to.expr (lines at j).tokens pos

module _ (rules : Rules) (lines : Listing) (i : ℕ) (suited : Suited rules lines i) (indent : ℕ) (s : Straight indent lines) where
  -- from what the plan makes of the lines after the definition
  by_plan : (p : Plan) (to : Assignment) (f : Fam) → i < length lines → assignment_of (lines at i).tokens ≡ some to → family to.lhs.text ≡ some f
      → p.fam ≡ f.name → p.expr ≡ to.expr
      → ((d : Defines p.fam p.expr) (rest : Listing) → drop (suc i) lines ≡ rest → Straight indent rest → (lines at i).indent ≡ indent
      → After rules lines i p d indent rest (map_from (acted_line rules i p) (suc i) rest))
      → Keeps indent lines (act rules lines i p)
  unfolding act execute
  by_plan p to f lt ha hf pf pe after =
      removal indent i (acted_line rules i p) (λ m l h. before_line rules i p m l (omega arith)) i 0 s lt (omega arith) here
    where
      here : (l : Line) (rest : Listing) → drop i lines ≡ l ∷ rest → Straight indent (l ∷ rest) → Keeps indent (l ∷ rest) (map_from (acted_line rules i p) (suc i) rest)
      here l rest e (last il r) = absurd (no_return l.tokens r (assigns_of l.tokens to (ap (λ (m : Line). assignment_of m.tokens) (sym (drop-step i lines l [] e).0) ∙ ha)))
      here l rest e (next y il a more) =
          let there = drop-step i lines l rest e in
          let shape = assigns_of l.tokens to (ap (λ (m : Line). assignment_of m.tokens) (sym there.0) ∙ ha) in
          let name : p.fam ≡ y = pf ∙ assigned-family l.tokens y to f a shape hf in
          let df = defines l.tokens y a shape in
          let d : Defines p.fam p.expr = record { value = df.0.value; worth = λ σ. subst⁻¹ (λ (r : List Token). Worth σ r (df.0.value σ)) pe (df.0.worth σ) } in
          let k = after d rest there.1 more (ap (λ (m : Line). m.indent) there.0 ∙ il) in (
            k.1,
            λ σ.
                sym (df.1 σ (λ τ. execute modulo τ rest) ∙ ap (λ (n : Text). execute modulo (assign n (df.0.value σ) σ) rest) (sym name)
                ∙ joined_same p.fam df.0.value k.0 σ),
          )

  module _ (labels : Labels) (d : Definition) (known : definition_of (lines at i).tokens ≡ some d) where
    -- where a definition comes from
    from : (to : Assignment) × (f : Fam) × (assignment_of (lines at i).tokens ≡ some to) × (family to.lhs.text ≡ some f) × (d.fam ≡ f) × (d.expr ≡ to.expr)
        × (d.calls ≡ is_some (call_in (lines at i).tokens))
    unfolding definition_of
    from =
        let a = bind-some known in
        let f = bind-some a.2 in
        let same = some_inj (unless-some f.2).1 in
        (a.0, f.0, a.1, f.1, ap (λ (x : Definition). x.fam) (sym same), ap (λ (x : Definition). x.expr) (sym same), ap (λ (x : Definition). x.calls) (sym same))

    suits-here : (j pos : ℕ) → use_of lines i d (volatile rules) ≡ some j → position (of_family d.fam.name) (lines at j).tokens ≡ some pos → Suits rules d.expr (lines at j).tokens pos
    unfolding use_of
    suits-here j pos u found =
        let o = from in
        let fam : d.fam.name ≡ o.1.name = ap (λ (f : Fam). f.name) o.4 in
        let base : ℕ = (lines at i).indent in
        subst⁻¹ (λ (r : List Token). Suits rules r (lines at j).tokens pos) o.5
        (suited o.0 o.1 o.2 o.3 j pos
        (sym (ap (λ (x : Text). use_from base x d.expr d.calls (volatile rules) (suc i) (drop (suc i) lines)) fam
        ∙ ap (λ (r : List Token). use_from base o.1.name r d.calls (volatile rules) (suc i) (drop (suc i) lines)) o.5
        ∙ ap (λ (c : Bool). use_from base o.1.name o.0.expr c (volatile rules) (suc i) (drop (suc i) lines)) o.6) ∙ u)
        (sym (ap (λ (x : Text). position (of_family x) (lines at j).tokens) fam) ∙ found))

    -- an expression, to one use
    single_keeps : (p : Plan) → plan_single rules lines i d labels (volatile rules) ≡ some p → Keeps indent lines (act rules lines i p)
    unfolding plan_single plan_use use_of replaceable
    single_keeps p e =
        let o = from in
        let j = bind-some e in
        let rest = unless-some j.2 in
        let pos = bind-some rest.1 in
        let made = if_some pos.2 in
        let q : Plan = record { fam = d.fam.name; expr = d.expr; last = j.0; brackets = wants_brackets rules d.expr (lines at j.0).tokens pos.0 } in
        subst (λ (r : Plan). Keeps indent lines (act rules lines i r)) (some_inj made.1)
        (by_plan q o.0 o.1 (inside lines i d known) o.2 o.3 (ap (λ (f : Fam). f.name) o.4) o.5
        (λ df ls h t b.
        single-after rules lines i q df indent (lines at i).indent labels d.calls pos.0 pos.1 refl (suits-here j.0 pos.0 j.1 pos.1)
        (not-true (both (both (both made.0).1).1).1) (not-false (neither rest.0).1) (suc i) h (omega arith) t
        (ap (use_from (lines at i).indent d.fam.name d.expr d.calls (volatile rules) (suc i)) (sym h) ∙ j.1)))

    lone_is : (expr : List Token) → lone_number expr ≡ true → (n : Token) × (expr ≡ n ∷ []) × (is Number n ≡ true)
    unfolding lone_number
    lone_is [] e = absurd (false≢true e)
    lone_is (t ∷ []) e = (t, refl, e)
    lone_is (t ∷ u ∷ us) e = absurd (false≢true e)

    -- a lone number, to several uses
    constant_keeps : (p : Plan) → lone_number d.expr ≡ true → plan_constant lines i d labels (volatile rules) ≡ some p → Keeps indent lines (act rules lines i p)
    unfolding plan_constant plan_reach all_take gathered
    constant_keeps p n e =
        let o = from in
        let made = if_some e in
        let x : Text = d.fam.name in
        let r : Reach = reach_of lines i x (volatile rules) in
        let q : Plan = record { fam = x; expr = d.expr; last = r.last; brackets = false } in
        let one = lone_is d.expr n in
        let far : (gathered lines i x (volatile rules)).last ≡ r.last = sym (reach-last lines i x (volatile rules)) in
        let good : any (λ j. bad_use x (lines at j).tokens) (gathered lines i x (volatile rules)).uses ≡ false =
        ap (any (λ j. bad_use x (lines at j).tokens)) (gathered_uses lines i x (volatile rules))
        ∙ refused x (volatile rules) lines i (gathered lines i x (volatile rules)).last
        ∙ ap (λ (m : ℕ). any (refuses x (volatile rules)) (slice (suc i) (suc m) lines)) far
        ∙ not-true (both (both made.0).1).1 in
        subst (λ (u : Plan). Keeps indent lines (act rules lines i u)) (some_inj made.1)
        (by_plan q o.0 o.1 (inside lines i d known) o.2 o.3 (ap (λ (f : Fam). f.name) o.4) o.5
        (λ df ls h t b.
        constant-after rules lines i q df indent (lines at i).indent (sym b) one.0 one.1 one.2 refl (suc i) i h (omega arith) (omega arith) t
        (ap (λ (m : Listing). (gather (lines at i).indent x (volatile rules) (suc i) m i).last) (sym h) ∙ far)
        (ap (λ (m : Listing). any (λ j. bad_use x (lines at j).tokens) (gather (lines at i).indent x (volatile rules) (suc i) m i).uses) (sym h) ∙ good)))

    plan_keeps : (p : Plan) → plan_for rules lines i d labels (volatile rules) ≡ some p → Keeps indent lines (act rules lines i p)
    unfolding plan_for
    plan_keeps p =
        by-some (λ (o : Option Plan). o ≡ some p → Keeps indent lines (act rules lines i p))
        (λ c e. single_keeps p e)
        (λ q c e. (let n = if_some (c ∙ e) in constant_keeps p n.0 n.1))

  -- an attempt that succeeds
  pub attempt_keeps : (labels : Labels) (addressed : List Text) {lines' : Listing} → try_at rules lines i labels addressed ≡ some lines' → Keeps indent lines lines'
  unfolding decide
  attempt_keeps labels addressed {lines'} e =
      let t = tried rules lines i labels addressed e in
      let d = bind-some t.1 in
      subst (Keeps indent lines) t.2 (plan_keeps labels d.0 d.1 t.0 (unless-some d.2).1)
