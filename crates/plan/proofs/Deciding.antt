-- The plan of an attempt: the cases in which `propagate_constant`, `plan_among`, `plan_use`, `plan_single`, `plan_for` and
-- `decide` return. Assumes nothing.
use Prim.Native.Nat.{ℕ, suc, ◌<◌}
use native.Mathlib.Omega.{arith}
use mathlib.Core.Path.{◌≡◌, refl, sym, ◌∙◌}
use mathlib.Core.Bool.{Bool, true, false, not as flip}
use mathlib.Core.List.{List}
use mathlib.Core.Option.{Option, none, some}
use lib.ListN.{length, get_or, drop, length-map}
use lib.Seq.{slice}
use borrow.Author.Tests.{not-true, not-false}
use Rattle.reference.specs.Control.{not, ◌and◌, ◌or◌, when◌then◌else◌, let_some◌else◌then◌}
use Rattle.reference.specs.Lists.{position}
use Rattle.reference.specs.Text.{Text, bytes, has}
use Rattle.reference.specs.Listing.{Token, Listing}
use Rattle.reference.specs.Names.{of_family}
use Rattle.reference.specs.Rules.{Rules, volatile}
use Rattle.reference.specs.Shapes.{kw_in}
use Rattle.reference.specs.Life.{Labels, dead_after}
use Rattle.reference.specs.Join.{replaceable, lone_number}
use Rattle.joining.specs.Plan as J
use Rattle.joining.specs.Plan.{reach_at, reach_from, reach_of, all_take, ends_at, plan_reach, plan_constant, use_of, wants_brackets, plan_use, plan_single, plan_for, decide}
use Rattle.joining.proofs.Reaching.{reach-reached}
use Rattle.joining.proofs.Straight.{use_found}
use Rattle.joining.proofs.Fitting.{found_at}
use Rattle.lines.specs.Words.{token_of, tokens_of}
use Rattle.lines.specs.Lines.{indent_of, part_of, bare_listing}
use Rattle.lines.specs.Shapes.{expr_words, Expression}
use Rattle.lines.specs.Fams.{fam_text, Known}
use Rattle.lines.proofs.shapes.Places.{found_is, found-not}
use Rattle.plan.specs.declared.definitions.Definition.{Definition}
use Rattle.plan.specs.Definitions.{definition_in, Sound, Defines}
use Rattle.plan.specs.Reaches.{reach}
use Rattle.plan.specs.declared.reaches.Reach.{Reach}
use Rattle.std.proofs.Common.{ControlFlow}
use Rattle.plan.specs.declared.plans.Join.{Join}
use Rattle.plan.specs.Plans.{plan_among, Plans}
use Rattle.plan.proofs.Reaching.{line_at}
use Rattle.std.specs.Prelude as std
use Rattle.std.specs.Prelude.{Some, None}
use Rattle.reference.specs.Options.{option_of}

-- ---- plans

do_inj : {j k : Join} → Some j ≡ Some k → j ≡ k
do_inj e = cc

never_do : {j : Join} {X : Type 0} → None ≡ Some j → X
never_do e = absurd (let z : ◌≡◌ {A = ℕ} 0 1 = cc in omega arith)

module _ {tape area : Text} {ws : List ℕ} {i : ℕ} {o : Option J.Plan} where
  no_plan : o ≡ none → {p : std.Option Join} → p ≡ None → Plans tape area ws i o p
  no_plan e ep = rw ep (record { is = sym e; sound = λ j f. never_do f })

  plan_of : {r : std.Option Join} {q : Option J.Plan} → o ≡ q → Plans tape area ws i q r → Plans tape area ws i o r
  plan_of e h = rw e h

  -- the plan for a definition d
  join_plan : (d : Definition) → Sound tape area ws d → (last : ℕ) (brackets : Bool)
      → o ≡ some (record { fam = fam_text tape area d.name.family; expr = tokens_of tape area (expr_words ws d.expr); last = last; brackets = brackets })
      → {r : Join} → r ≡ record { line = i; last = last; brackets = brackets; family = d.name.family; expr = d.expr } → Plans tape area ws i o (Some r)
  join_plan d h last brackets e er =
      rw er (record { is = sym e; sound = λ j f. rw (← do_inj f) (record { line_is = refl; known = h.known; side = h.side }) })

module _ {tape area : Text} {ws : List ℕ} {d : Definition} (h : Sound tape area ws d) where
  pub sound-known : Known tape area d.name.family
  sound-known = h.known

  pub sound-side : {us : List ℕ} → us ≡ ws → Expression us d.expr
  sound-side e = rw e h.side

-- ---- a constant

-- r is how far the search q has come, ended or not
abbrev ComeTo : ControlFlow Reach Reach → Reach → Type 0
ComeTo q r = r ≡ record { used = (reach q).used; last = (reach q).last }

module _ (tape area : Text) (tokens lines : List ℕ) (i : ℕ) (fam : Text) (vs : List Text) (h : i < length lines) (q : ControlFlow Reach Reach)
    (e : reach q ≡ reach_of (bare_listing tape area tokens lines) i fam vs) {r : Reach} (er : ComeTo q r) where
  pub reach-inside : r.last < length lines
  reach-inside =
      let b = (reach-reached (bare_listing tape area tokens lines) i fam vs (rw length-map h)).0 in
      let c : (reach_of (bare_listing tape area tokens lines) i fam vs).last < length lines = rw length-map at b in
      rw (er, e) c

module _ (tape area : Text) (tokens lines : List ℕ) (i : ℕ) (d : Definition) (labels : Labels) (vs : List Text) (q : ControlFlow Reach Reach)
    (e : reach q ≡ reach_of (bare_listing tape area tokens lines) i (fam_text tape area d.name.family) vs) {r : Reach} (er : ComeTo q r) where
  abbrev constant : Option J.Plan
  constant = plan_constant (bare_listing tape area tokens lines) i (definition_in tape area (part_of tokens (get_or lines i 0)) d) labels vs

  -- by the three tests
  constant_is : constant
      ≡ (when r.used and ends_at (bare_listing tape area tokens lines) i (fam_text tape area d.name.family) labels vs r.last
      and all_take (fam_text tape area d.name.family) vs (slice (suc i) (suc r.last) (bare_listing tape area tokens lines))
      then some (record {
        fam = fam_text tape area d.name.family;
        expr = tokens_of tape area (expr_words (part_of tokens (get_or lines i 0)) d.expr);
        last = r.last;
        brackets = false;
      })
      else none)
  unfolding plan_constant plan_reach
  constant_is = rw (er, ← e)

  pub constant_unused : r.used ≡ false → {p : std.Option Join} → p ≡ None → Plans tape area (part_of tokens (get_or lines i 0)) i constant p
  unfolding when◌then◌else◌ ◌and◌
  constant_unused t = no_plan (constant_is ∙ rw t)

  module _ (u : r.used ≡ true) {a : Bool} (ea : a ≡ ends_at (bare_listing tape area tokens lines) i (fam_text tape area d.name.family) labels vs r.last) where
    pub constant-live : a ≡ false → {p : std.Option Join} → p ≡ None → Plans tape area (part_of tokens (get_or lines i 0)) i constant p
    unfolding when◌then◌else◌ ◌and◌
    constant-live t = no_plan (constant_is ∙ rw (u, ← ea, t))

    module _ (ta : a ≡ true) {b : Bool}
        (eb : b ≡ all_take (fam_text tape area d.name.family) vs (slice (suc i) (suc r.last) (bare_listing tape area tokens lines))) where
      pub constant_refused : b ≡ false → {p : std.Option Join} → p ≡ None → Plans tape area (part_of tokens (get_or lines i 0)) i constant p
      unfolding when◌then◌else◌ ◌and◌
      constant_refused t = no_plan (constant_is ∙ rw (u, ← ea, ta, ← eb, t))

      pub constant-joins : b ≡ true → Sound tape area (part_of tokens (get_or lines i 0)) d → {p : Join}
          → p ≡ record { line = i; last = r.last; brackets = false; family = d.name.family; expr = d.expr }
          → Plans tape area (part_of tokens (get_or lines i 0)) i constant (Some p)
      unfolding when◌then◌else◌ ◌and◌
      constant-joins t h ep = join_plan d h r.last false (constant_is ∙ rw (u, ← ea, ta, ← eb, t)) ep

-- ---- a single use

pub found_inside : (p : Token → Bool) (tape area : Text) (ws : List ℕ) {q : std.Option ℕ} {pos : ℕ} → option_of q ≡ position p (tokens_of tape area ws) → q ≡ Some pos → pos < length ws
found_inside p tape area ws {pos = pos} h e =
    rw length-map at (found_at p (tokens_of tape area ws) pos (token_of tape area 0) (found_is h e)).0

-- the definition d of a line whose words are us, among the words vs of line j, read as ws
module _ (rules : Rules) (tape area : Text) (us vs : List ℕ) (i j : ℕ) (d : Definition) {ws : List ℕ} (ew : ws ≡ vs) where
  abbrev among : Option J.Plan
  among = plan_among rules (definition_in tape area us d) (tokens_of tape area vs) j

  module _ (q : std.Option ℕ) (eq : option_of q ≡ position (of_family (fam_text tape area d.name.family)) (tokens_of tape area ws)) where
    pub among_none : q ≡ None → {p : std.Option Join} → p ≡ None → Plans tape area us i among p
    unfolding plan_among let_some◌else◌then◌
    among_none e = no_plan (rw (← ew, found-not eq e))

    module _ {pos : ℕ} (e : q ≡ Some pos) {b : Bool}
        (eb : b ≡ replaceable rules.parts (record { name = fam_text tape area d.name.family; width = d.name.width; lowest = d.name.lowest }) (tokens_of tape area ws) pos) where
      pub among_unfit : flip b ≡ true → {p : std.Option Join} → p ≡ None → Plans tape area us i among p
      unfolding plan_among when◌then◌else◌ let_some◌else◌then◌
      among_unfit t = no_plan (rw (← ew, found_is eq e, ← eb, not-true b t))

      pub among_joins : flip b ≡ false → Sound tape area us d
          → {xs : List ℕ} → xs ≡ us → {y : Bool} → y ≡ wants_brackets rules (tokens_of tape area (expr_words xs d.expr)) (tokens_of tape area ws) pos
          → {p : Join} → p ≡ record { line = i; last = j; brackets = y; family = d.name.family; expr = d.expr }
          → Plans tape area us i among (Some p)
      unfolding plan_among when◌then◌else◌ let_some◌else◌then◌
      among_joins t h eu {y} ey ep = join_plan d h j y (rw (← ew, found_is eq e, ← eb, not-false b t, ← eu, ← ey)) ep

-- the line j, whose words are ws
module _ (rules : Rules) (tape area : Text) (tokens lines : List ℕ) (i j : ℕ) (d : Definition) (labels : Labels) (vs : List Text)
    (hi : i < length lines) (hj : j < length lines) {ws : List ℕ} (ew : ws ≡ part_of tokens (get_or lines j 0))
    {a : Bool} (ea : a ≡ kw_in (tokens_of tape area ws) (bytes "while")) where
  abbrev used : Option J.Plan
  used = plan_use rules (bare_listing tape area tokens lines) i (definition_in tape area (part_of tokens (get_or lines i 0)) d) labels vs j

  used_is : used
      ≡ (when a or not (dead_after (bare_listing tape area tokens lines) j (fam_text tape area d.name.family) (indent_of (get_or lines i 0)) labels i vs) then none
      else plan_among rules (definition_in tape area (part_of tokens (get_or lines i 0)) d) (tokens_of tape area ws) j)
  unfolding plan_use plan_among
  used_is = rw (line_at tape area tokens lines i hi, line_at tape area tokens lines j hj, ← ew, ← ea)

  pub used_while : a ≡ true → {p : std.Option Join} → p ≡ None → Plans tape area (part_of tokens (get_or lines i 0)) i used p
  unfolding when◌then◌else◌ ◌or◌
  used_while t = no_plan (used_is ∙ rw t)

  module _ (ta : a ≡ false) {k : ℕ} (ek : k ≡ indent_of (get_or lines i 0))
      {x : Bool} (ex : x ≡ dead_after (bare_listing tape area tokens lines) j (fam_text tape area d.name.family) k labels i vs) where
    pub used-live : flip x ≡ true → {p : std.Option Join} → p ≡ None → Plans tape area (part_of tokens (get_or lines i 0)) i used p
    unfolding when◌then◌else◌ ◌or◌ not
    used-live t = no_plan (used_is ∙ rw (ta, ← ek, ← ex, not-true x t))

    pub used_among : flip x ≡ false → {p : std.Option Join}
        → Plans tape area (part_of tokens (get_or lines i 0)) i
        (plan_among rules (definition_in tape area (part_of tokens (get_or lines i 0)) d) (tokens_of tape area (part_of tokens (get_or lines j 0))) j) p
        → Plans tape area (part_of tokens (get_or lines i 0)) i used p
    unfolding when◌then◌else◌ ◌or◌ not
    used_among t h = plan_of (used_is ∙ rw (ta, ← ek, ← ex, not-false x t, ew)) h

module _ (rules : Rules) (tape area : Text) (tokens lines : List ℕ) (i : ℕ) (d : J.Definition) (vs : List Text)
    {q : std.Option ℕ} (eq : option_of q ≡ use_of (bare_listing tape area tokens lines) i d vs) where
  pub use_inside : {j : ℕ} → q ≡ Some j → j < length lines
  unfolding use_of
  use_inside {j} e =
      rw length-map at (use_found (bare_listing tape area tokens lines) _ d.fam.name vs d.expr d.calls (suc i) (drop (suc i) (bare_listing tape area tokens lines)) j refl (found_is eq e)).reached.0

  module _ {ws : List ℕ} (labels : Labels) where
    pub single_none : q ≡ None → {p : std.Option Join} → p ≡ None → Plans tape area ws i (plan_single rules (bare_listing tape area tokens lines) i d labels vs) p
    unfolding plan_single let_some◌else◌then◌
    single_none e = no_plan (rw (found-not eq e))

    pub single_at : {j : ℕ} → q ≡ Some j → {p : std.Option Join} → Plans tape area ws i (plan_use rules (bare_listing tape area tokens lines) i d labels vs j) p
        → Plans tape area ws i (plan_single rules (bare_listing tape area tokens lines) i d labels vs) p
    unfolding plan_single let_some◌else◌then◌
    single_at {j} e h = plan_of {q = plan_use rules (bare_listing tape area tokens lines) i d labels vs j} (rw (found_is eq e)) h

-- ---- the definition's plan

-- us are the words of the line that is joined, as they were read
module _ (rules : Rules) (tape area : Text) (ws : List ℕ) (lines : Listing) (i : ℕ) (d : Definition) (labels : Labels) (vs : List Text) {us : List ℕ} (eu : us ≡ ws)
    {a : Bool} (ea : (tape area : Text) → a ≡ lone_number (tokens_of tape area (expr_words us d.expr))) where
  -- the plan for the definition
  abbrev chosen : Option J.Plan
  chosen = plan_for rules lines i (definition_in tape area ws d) labels vs

  lone : {b : Bool} → a ≡ b → lone_number (tokens_of tape area (expr_words ws d.expr)) ≡ b
  lone e = rw (← eu) (sym (ea tape area) ∙ e)

  pub for_other : a ≡ false → {p : std.Option Join} → Plans tape area ws i (plan_single rules lines i (definition_in tape area ws d) labels vs) p → Plans tape area ws i chosen p
  unfolding plan_for when◌then◌else◌ let_some◌else◌then◌
  for_other t h = plan_of (rw (lone t)) h

  module _ (ta : a ≡ true) {q : std.Option Join} (hq : Plans tape area ws i (plan_constant lines i (definition_in tape area ws d) labels vs) q) where
    pub for_constant : {j : Join} → q ≡ Some j → Plans tape area ws i chosen (Some j)
    unfolding plan_for when◌then◌else◌ let_some◌else◌then◌
    for_constant e = let h = rw e at hq in record { is = rw (lone ta, ← h.is); sound = h.sound }

    pub for_single : q ≡ None → {p : std.Option Join} → Plans tape area ws i (plan_single rules lines i (definition_in tape area ws d) labels vs) p → Plans tape area ws i chosen p
    unfolding plan_for when◌then◌else◌ let_some◌else◌then◌
    for_single e h = let g = rw e at hq in plan_of (rw (lone ta, ← g.is)) h

pub ruleset choosing = (for_other, for_constant, for_single)

-- ---- the decision

module _ (tape area : Text) (tokens lines : List ℕ) (i : ℕ) (rules : Rules) (labels : Labels) (addressed : List Text)
    (hi : i < length lines) {ws : List ℕ} (ew : ws ≡ part_of tokens (get_or lines i 0)) {r : std.Option Definition} (h : Defines tape area ws r) where
  decided : decide rules (bare_listing tape area tokens lines) i labels addressed
      ≡ (let_some (J.definition_of (tokens_of tape area ws)) else none then λ d.
      when has addressed d.fam.name then none else plan_for rules (bare_listing tape area tokens lines) i d labels (volatile rules))
  unfolding decide
  decided = rw (line_at tape area tokens lines i hi, ← ew)

  pub decide_none : r ≡ None → {p : std.Option Join} → p ≡ None → Plans tape area (part_of tokens (get_or lines i 0)) i (decide rules (bare_listing tape area tokens lines) i labels addressed) p
  unfolding let_some◌else◌then◌
  decide_none e = no_plan (decided ∙ rw (← h.is, e))

  module _ {d : Definition} (e : r ≡ Some d) where
    module _ {a : Bool} (ea : a ≡ has addressed (fam_text tape area d.name.family)) where
      pub decide-addressed : a ≡ true
          → {p : std.Option Join} → p ≡ None → Plans tape area (part_of tokens (get_or lines i 0)) i (decide rules (bare_listing tape area tokens lines) i labels addressed) p
      unfolding let_some◌else◌then◌ when◌then◌else◌
      decide-addressed t = no_plan (decided ∙ rw (← h.is, e, ← ea, t))

      pub decide_for : a ≡ false → {p : std.Option Join}
          → Plans tape area (part_of tokens (get_or lines i 0)) i
          (plan_for rules (bare_listing tape area tokens lines) i (definition_in tape area (part_of tokens (get_or lines i 0)) d) labels (volatile rules)) p
          → Plans tape area (part_of tokens (get_or lines i 0)) i (decide rules (bare_listing tape area tokens lines) i labels addressed) p
      unfolding let_some◌else◌then◌ when◌then◌else◌
      decide_for t g = plan_of (decided ∙ rw (← h.is, e, ← ea, t, ew)) g

pub ruleset deciding = (decide_none, decide-addressed, decide_for)
