-- To decide and then to act is to try: `try_at` is `decide` followed by `act`, for every listing. Assumes nothing.
use Prim.Native.Nat.{ℕ, suc, ◌<◌}
use mathlib.Core.Path.{◌≡◌, refl, sym, ap, ◌∙◌, subst}
use mathlib.Core.Bool.{Bool, true, false}
use mathlib.Core.List.{List, [], ◌∷◌}
use mathlib.Core.Option.{Option, none, some}
use lib.ListN.{length, drop}
use Rattle.reference.specs.Control.{not, ◌and◌, ◌or◌, when◌then◌else◌, let_some◌else◌then◌}
use Rattle.reference.specs.Lists.{any, position, is_some, is_empty, remove, modify}
use Rattle.reference.specs.Text.{Text, has}
use Rattle.reference.specs.Listing.{Token, Listing, blank, ◌at◌, with_tokens}
use Rattle.reference.specs.Names.{Fam, family, of_family}
use Rattle.reference.specs.Numbers.{fold, merge}
use Rattle.reference.specs.Rules.{Rules, volatile}
use Rattle.reference.specs.Shapes.{Assignment, assignment_of, call_in}
use Rattle.reference.specs.Life.{Labels}
use Rattle.reference.specs.Join.{Uses, gather, rewrite_use, rewrite_uses, rewrite_one, propagate_constant, use_from, join_at, join_one, lone_number, try_at, targets}
use Rattle.reference.proofs.Cases.{by-if, by-some, both, neither, true-false, pair, some_inj, none-some, if_some, unless-some, bind-some}
use Rattle.reference.proofs.Shapes.{inside as assignment-inside}
use Rattle.reference.proofs.Attempts.{all_uses, one_use, by_targets, is_some_some}
use Rattle.laws.proofs.Scans.{if-true, if-false, or_only}
use Rattle.joining.specs.Plan.{Definition, definition_of, Plan, all_take, ends_at, plan_reach, plan_constant, use_of, wants_brackets, plan_use, plan_single, plan_for, decide, right_side_of, map_from}
use Rattle.joining.specs.Plan.{acted_line, act}
use Rattle.joining.proofs.Uses.{uses_upto, single_use}
use Rattle.joining.proofs.Reaching.{gathered, reach-used, reach-last, gathered_uses}
use Rattle.joining.proofs.Taking.{refused}
use Rattle.joining.proofs.Straight.{use_found}
use Rattle.joining.proofs.Single.{use_count, replaced_one}
use Rattle.joining.proofs.Acting.{acted}
use Rattle.joining.proofs.Indexed.{modify_same}

-- ---- a definition

-- what a definition is made of
pub record Defined (ts : List Token) (d : Definition) : Type 0 where
  pub to : Assignment
  pub assignment_is : assignment_of ts ≡ some to
  pub expr_is : d.expr ≡ to.expr
  pub calls_is : d.calls ≡ is_some (call_in ts)

pub defined_by : (ts : List Token) (d : Definition) → definition_of ts ≡ some d → Defined ts d
unfolding definition_of
defined_by ts d e =
    let a = bind-some e in
    let f = bind-some a.2 in
    let same = some_inj (unless-some f.2).1 in
    record {
      to = a.0;
      assignment_is = a.1;
      expr_is = ap (λ (x : Definition). x.expr) (sym same);
      calls_is = ap (λ (x : Definition). x.calls) (sym same);
    }

pub inside : (lines : Listing) (i : ℕ) (d : Definition) → definition_of (lines at i).tokens ≡ some d → i < length lines
inside lines i d e = assignment-inside lines i (defined_by (lines at i).tokens d e).assignment_is

-- ---- the two parts, one after the other

module _ (rules : Rules) (lines : Listing) (i : ℕ) where
  unfoldable pub done : Option Plan → Option Listing
  done o = let_some o else none then λ p. some (act rules lines i p)

  done_none : none ≡ done none
  unfolding done let_some◌else◌then◌
  done_none = refl

  carried : {A : Type 0} (o : Option A) (f : A → Option Listing) (g : A → Option Plan) → ((a : A) → o ≡ some a → f a ≡ done (g a))
      → (let_some o else none then f) ≡ done (let_some o else none then g)
  unfolding done let_some◌else◌then◌
  carried none f g h = refl
  carried (some a) f g h = h a refl

  chosen : (b : Bool) (x x' : Option Listing) (y y' : Option Plan) → (b ≡ true → x ≡ done y) → (b ≡ false → x' ≡ done y')
      → (when b then x else x') ≡ done (when b then y else y')
  unfolding when◌then◌else◌
  chosen true x x' y y' f g = f refl
  chosen false x x' y y' f g = g refl

  tests : (x : Listing) (p : Plan) → x ≡ act rules lines i p → (e dead kill bad : Bool)
      → (when e or not dead and not kill then none else when bad then none else some x) ≡ done (when not e and (dead or kill) and not bad then some p else none)
  unfolding done when◌then◌else◌ let_some◌else◌then◌ not ◌and◌ ◌or◌
  tests x p h true dead kill bad = refl
  tests x p h false true kill true = refl
  tests x p h false true kill false = ap {B = Option Listing} some h
  tests x p h false false true true = refl
  tests x p h false false true false = ap {B = Option Listing} some h
  tests x p h false false false bad = refl

  first_of : (a b : Option Listing) (x y : Option Plan) → a ≡ done x → b ≡ done y → (let_some a else b then λ l. some l) ≡ done (let_some x else y then λ p. some p)
  unfolding done let_some◌else◌then◌
  first_of a b none y e h = rw e h
  first_of a b (some p) y e h = rw e

  module _ (labels : Labels) (d : Definition) (known : definition_of (lines at i).tokens ≡ some d) where
    within : i < length lines
    within = inside lines i d known

    constant_is : propagate_constant rules.edition lines i d.fam.name d.expr labels (volatile rules) ≡ done (plan_constant lines i d labels (volatile rules))
    unfolding propagate_constant plan_constant plan_reach gathered ends_at all_take right_side_of when◌then◌else◌ act
    constant_is =
        let fam : Text = d.fam.name in
        let g : Uses = gathered lines i fam (volatile rules) in
        let p : Plan = record { fam = fam; expr = d.expr; last = g.last; brackets = false } in
        let same : rewrite_uses rules.edition fam d.expr g.uses lines ≡ map_from (acted_line rules i p) 0 lines =
        ap (λ (u : List ℕ). rewrite_uses rules.edition fam d.expr u lines) (gathered_uses lines i fam (volatile rules)) ∙ sym (acted rules i p lines within) in
        rw (
          reach-used lines i fam (volatile rules),
          reach-last lines i fam (volatile rules),
          ← (refused fam (volatile rules) lines i g.last),
          ← (gathered_uses lines i fam (volatile rules)),
        )
        (tests _ p (ap (remove i) same) (is_empty g.uses) _ _ _)

    -- the plan for the use on line j, at the token `pos`
    plan_at : ℕ → ℕ → Plan
    plan_at j pos = record { fam = d.fam.name; expr = d.expr; last = j; brackets = wants_brackets rules d.expr (lines at j).tokens pos }

    found : ℕ → Type 0
    found j = use_from (lines at i).indent d.fam.name d.expr (is_some (call_in (lines at i).tokens)) (volatile rules) (suc i) (drop (suc i) lines) ≡ some j

    replaced : (j pos : ℕ) → found j → position (of_family d.fam.name) (lines at j).tokens ≡ some pos
        → remove i (modify j (rewrite_one rules pos d.expr) lines) ≡ act rules lines i (plan_at j pos)
    unfolding found plan_at act rewrite_uses rewrite_use rewrite_one
    replaced j pos h hp =
        let fam : Text = d.fam.name in
        let p : Plan = plan_at j pos in
        let only : uses_upto fam (volatile rules) j (suc i) (drop (suc i) lines) ≡ j ∷ [] =
        single_use fam (volatile rules) (lines at i).indent d.expr (is_some (call_in (lines at i).tokens)) (suc i) (drop (suc i) lines) j h in
        let u = use_found lines (lines at i).indent fam (volatile rules) d.expr (is_some (call_in (lines at i).tokens)) (suc i) (drop (suc i) lines) j refl h in
        let one = replaced_one rules p (lines at j).tokens pos refl hp (use_count (lines at j).tokens fam (volatile rules) 1 u.once) in
        ap (remove i)
        (modify_same (rewrite_one rules pos d.expr) (rewrite_use rules.edition fam (right_side_of p)) blank j lines
        (ap (λ (ts : List Token). with_tokens (fold rules.edition (merge ts)) (lines at j)) (sym one))
        ∙ ap (λ (us : List ℕ). rewrite_uses rules.edition fam (right_side_of p) us lines) (sym only)
        ∙ sym (acted rules i p lines within))

    single_is : join_one rules lines i d.fam d.expr labels (volatile rules) ≡ done (plan_single rules lines i d labels (volatile rules))
    unfolding join_one join_at plan_single use_of plan_use found plan_at done let_some◌else◌then◌
    single_is =
        rw (defined_by (lines at i).tokens d known).calls_is
        (carried _ (join_at rules lines i d.fam d.expr labels (volatile rules)) (plan_use rules lines i d labels (volatile rules)) (λ j h.
        chosen _ _ _ _ _
        (λ b. refl)
        (λ b. carried _ _ _ (λ pos hp. chosen _ _ _ _ _ (λ c. ap {B = Option Listing} some (replaced j pos h hp)) (λ c. refl)))))

    plan_is : (let_some (when lone_number d.expr then propagate_constant rules.edition lines i d.fam.name d.expr labels (volatile rules) else none)
        else join_one rules lines i d.fam d.expr labels (volatile rules) then λ l. some l) ≡ done (plan_for rules lines i d labels (volatile rules))
    unfolding plan_for
    plan_is =
        first_of _ _ (when lone_number d.expr then plan_constant lines i d labels (volatile rules) else none) (plan_single rules lines i d labels (volatile rules))
        (chosen (lone_number d.expr) _ _ (plan_constant lines i d labels (volatile rules)) none (λ b. constant_is) (λ b. done_none)) single_is

-- where there is none, and where there may be one
module _ (ts : List Token) where
  no_assignment : assignment_of ts ≡ none → definition_of ts ≡ none
  unfolding definition_of let_some◌else◌then◌
  no_assignment h = rw h

  no_family : (a : Assignment) → assignment_of ts ≡ some a → family a.lhs.text ≡ none → definition_of ts ≡ none
  unfolding definition_of let_some◌else◌then◌
  no_family a ha h = rw (ha, h)

  defined : (a : Assignment) (f : Fam) → assignment_of ts ≡ some a → family a.lhs.text ≡ some f
      → definition_of ts ≡ (when any (of_family f.name) a.expr then none else some (record { fam = f; expr = a.expr; calls = is_some (call_in ts) }))
  unfolding definition_of let_some◌else◌then◌
  defined a f ha hf = rw (ha, hf)

module _ (rules : Rules) (lines : Listing) (i : ℕ) (labels : Labels) (addressed : List Text) where
  undecided : definition_of (lines at i).tokens ≡ none → decide rules lines i labels addressed ≡ none
  unfolding decide let_some◌else◌then◌
  undecided h = rw h

  decided : (d : Definition) → definition_of (lines at i).tokens ≡ some d
      → decide rules lines i labels addressed ≡ (when has addressed d.fam.name then none else plan_for rules lines i d labels (volatile rules))
  unfolding decide let_some◌else◌then◌
  decided d h = rw h

  fails : decide rules lines i labels addressed ≡ none → none ≡ done rules lines i (decide rules lines i labels addressed)
  fails h = rw h (done_none rules lines i)

  pub try_at_is : try_at rules lines i labels addressed ≡ (let_some (decide rules lines i labels addressed) else none then λ p. some (act rules lines i p))
  unfolding try_at done
  try_at_is =
      by-some (λ (o : Option Listing). o ≡ done rules lines i (decide rules lines i labels addressed))
      (λ h. fails (undecided (no_assignment ts h)))
      (λ a ha. by-some (λ (o : Option Listing). o ≡ done rules lines i (decide rules lines i labels addressed))
      (λ h. fails (undecided (no_family ts a ha h)))
      (λ f hf.
      (let d : Definition = record { fam = f; expr = a.expr; calls = is_some (call_in ts) } in
      let known : any (of_family f.name) a.expr ≡ false → definition_of ts ≡ some d = λ m. defined ts a f ha hf ∙ if-false _ _ m in
      by-if (λ (o : Option Listing). o ≡ done rules lines i (decide rules lines i labels addressed))
      (λ t. fails (refuse d t (λ m. defined ts a f ha hf ∙ if-true _ _ m) known))
      (λ t.
      (let n = neither t in
      plan_is rules lines i labels d (known n.1) ∙ ap (done rules lines i) (sym (decided d (known n.1) ∙ if-false _ _ n.0)))))))
    where
      ts : List Token
      ts = (lines at i).tokens

      -- the name is addressed, or the right side mentions it
      refuse : {m : Bool} (d : Definition) → (has addressed d.fam.name or m) ≡ true
          → (m ≡ true → definition_of ts ≡ none) → (m ≡ false → definition_of ts ≡ some d) → decide rules lines i labels addressed ≡ none
      refuse {m = true} d t gone known = undecided (gone refl)
      refuse {m = false} d t gone known = decided d (known refl) ∙ if-true _ _ (or_only refl ∙ t)

  -- what an attempt that succeeds has decided, and done
  pub tried : {lines' : Listing} → try_at rules lines i labels addressed ≡ some lines'
      → (p : Plan) × (decide rules lines i labels addressed ≡ some p) × (act rules lines i p ≡ lines')
  tried e = let d = bind-some (sym try_at_is ∙ e) in (d.0, d.1, some_inj d.2)

-- ---- the lines that it is joined into (M-105)

-- the places that a plan changes
abbrev pub changed_places : Rules → Listing → ℕ → Plan → List ℕ
changed_places rules lines i p = uses_upto p.fam (volatile rules) p.last (suc i) (drop (suc i) lines)

module _ (rules : Rules) (lines : Listing) (i : ℕ) (labels : Labels) (d : Definition) (known : definition_of (lines at i).tokens ≡ some d) where
  done_some : (o : Option Plan) → is_some (done rules lines i o) ≡ is_some o
  unfolding done let_some◌else◌then◌
  done_some none = refl
  done_some (some p) = refl

  constant_some : is_some (propagate_constant rules.edition lines i d.fam.name d.expr labels (volatile rules)) ≡ is_some (plan_constant lines i d labels (volatile rules))
  constant_some = ap is_some (constant_is rules lines i labels d known) ∙ done_some _

  -- every use that was gathered
  constant-targets : (p : Plan) → plan_constant lines i d labels (volatile rules) ≡ some p
      → (gather (lines at i).indent d.fam.name (volatile rules) (suc i) (drop (suc i) lines) i).uses ≡ changed_places rules lines i p
  unfolding plan_constant plan_reach gathered
  constant-targets p e =
      let fam : Text = d.fam.name in
      let same = some_inj (if_some e).1 in
      gathered_uses lines i fam (volatile rules)
      ∙ ap (λ (n : ℕ). uses_upto fam (volatile rules) n (suc i) (drop (suc i) lines)) (sym (reach-last lines i fam (volatile rules)))
      ∙ ap (λ (q : Plan). changed_places rules lines i q) same

  one_target : (o : Option ℕ) (j : ℕ) → o ≡ some j → (let_some o else [] then λ j. j ∷ []) ≡ j ∷ []
  unfolding let_some◌else◌then◌
  one_target o j e = rw e

  -- the one use
  single-targets : (p : Plan) → plan_single rules lines i d labels (volatile rules) ≡ some p → one_use lines i d.fam d.expr (volatile rules) ≡ changed_places rules lines i p
  unfolding plan_single use_of plan_use
  single-targets p e =
      let b = bind-some e in
      let j : ℕ = b.0 in
      let q = bind-some (unless-some b.2).1 in
      let calls : Bool = is_some (call_in (lines at i).tokens) in
      let found : use_from (lines at i).indent d.fam.name d.expr calls (volatile rules) (suc i) (drop (suc i) lines) ≡ some j =
      rw (sym (defined_by (lines at i).tokens d known).calls_is) b.1 in
      one_target _ j found
      ∙ sym (single_use d.fam.name (volatile rules) (lines at i).indent d.expr calls (suc i) (drop (suc i) lines) j found)
      ∙ ap (λ (q : Plan). changed_places rules lines i q) (some_inj (if_some q.2).1)

-- THE LINES THAT AN ATTEMPT IS JOINED INTO ARE THOSE THAT ITS PLAN CHANGES
pub targets-are : (rules : Rules) (lines : Listing) (i : ℕ) (labels : Labels) (addressed : List Text) (p : Plan) → decide rules lines i labels addressed ≡ some p
    → targets rules lines i labels ≡ changed_places rules lines i p
unfolding decide definition_of plan_for
targets-are rules lines i labels addressed p e =
    let known = bind-some e in
    let a = bind-some known.1 in
    let f = bind-some a.2 in
    let d : Definition = record { fam = f.0; expr = a.0.expr; calls = is_some (call_in (lines at i).tokens) } in
    let same : d ≡ known.0 = some_inj (unless-some f.2).1 in
    let defined : definition_of (lines at i).tokens ≡ some d = known.1 ∙ ap {B = Option Definition} some (sym same) in
    let planned : plan_for rules lines i d labels (volatile rules) ≡ some p =
    subst (λ (x : Definition). plan_for rules lines i x labels (volatile rules) ≡ some p) (sym same) (unless-some known.2).1 in
    let constant : is_some (propagate_constant rules.edition lines i d.fam.name d.expr labels (volatile rules)) ≡ is_some (plan_constant lines i d labels (volatile rules)) =
    constant_some rules lines i labels d defined in
    by_targets rules lines i labels (λ js. js ≡ changed_places rules lines i p) a.0 f.0 a.1 f.1
    (λ many. by-some (λ (o : Option Plan). o ≡ some p → all_uses lines i f.0 (volatile rules) ≡ changed_places rules lines i p)
    (λ n u. (let b = both many in let q = is_some_some (plan_constant lines i d labels (volatile rules)) (sym constant ∙ b.1) in absurd (none-some (sym n ∙ if-true _ _ b.0 ∙ q.1))))
    (λ q h u. constant-targets rules lines i labels d defined q (if_some h).1 ∙ ap (λ (q : Plan). changed_places rules lines i q) (some_inj u))
    planned)
    (λ many. by-some (λ (o : Option Plan). o ≡ some p → one_use lines i f.0 d.expr (volatile rules) ≡ changed_places rules lines i p)
    (λ n u. single-targets rules lines i labels d defined p u)
    (λ q h u. (let c = if_some h in absurd (true-false (pair c.0 (constant ∙ ap is_some c.1)) many)))
    planned)
