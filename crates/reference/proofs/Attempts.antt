-- An attempt that succeeds: where it found its uses, that it leaves its listing as `Removed` says, and the lines that it was joined into. Assumes nothing.
use Prim.Native.Nat.{ℕ, suc, ◌≤◌, ◌<◌}
use native.Mathlib.Omega.{arith}
use native.Mathlib.Nat.{le_refl}
use mathlib.Core.Path.{◌≡◌, refl, sym, ap, ◌∙◌, subst}
use mathlib.Core.Bool.{Bool, true, false}
use mathlib.Core.List.{List, [], ◌∷◌}
use mathlib.Core.Option.{Option, none, some}
use lib.Dec.{eqb}
use lib.ListN.{length, drop}
use borrow.Author.Tests.{eqb-false}
use Rattle.reference.specs.Control.{◌and◌, when◌then◌else◌, let_some◌else◌then◌}
use Rattle.reference.specs.Lists.{any, is_some, is_empty, modify}
use Rattle.reference.specs.Text.{Text}
use Rattle.reference.specs.Listing.{Token, Listing, ◌at◌}
use Rattle.reference.specs.Names.{Fam, family}
use Rattle.reference.specs.Rules.{Rules, volatile}
use Rattle.reference.specs.Shapes.{Assignment, assignment, is_label, call_at}
use Rattle.reference.specs.Life.{Labels}
use Rattle.reference.specs.Join.{Uses, ends_run, gather, substitute, rewrite_use, rewrite_uses, propagate_constant, use_from, replace_at, rewrite_one, join_at, join_one, lone_number, try_at, targets}
use Rattle.reference.specs.Claim.{calls_in}
use Rattle.reference.proofs.Cases.{by-if, by-some, by_touch, both, neither, true-false, pair, some_inj, none-some, if_some, unless-some, bind-some}
use Rattle.reference.proofs.Shapes.{assigns}
use Rattle.reference.proofs.Weights.{fold-merge_le, replaced_le, substitute_le}
use Rattle.reference.proofs.Calls.{fold-merge_keeps, replaced_keeps, substitute_keeps, number_silent}
use Rattle.reference.proofs.Lines.{at_modify, length-modify, drop-step}
use Rattle.reference.proofs.Changes.{Changes, unchanged, changes_trans, changes_line, Assigns, Removed}
use Rattle.reference.proofs.Limits.{All}

-- the lines that `targets` names
abbrev pub all_uses : Listing → ℕ → Fam → List Text → List ℕ
all_uses lines i f volatile = (gather (lines at i).indent f.name volatile (suc i) (drop (suc i) lines) i).uses

abbrev pub one_use : Listing → ℕ → Fam → List Token → List Text → List ℕ
one_use lines i f expr volatile =
    let_some (use_from (lines at i).indent f.name expr (is_some (call_at (lines at i))) volatile (suc i) (drop (suc i) lines)) else [] then λ j. j ∷ []

one_use_is : (lines : Listing) (i : ℕ) (f : Fam) (expr : List Token) (volatile : List Text) {j : ℕ}
    → use_from (lines at i).indent f.name expr (is_some (call_at (lines at i))) volatile (suc i) (drop (suc i) lines) ≡ some j
    → one_use lines i f expr volatile ≡ j ∷ []
unfolding let_some◌else◌then◌
one_use_is lines i f expr volatile e = rw e

-- ---- a lone number, to several uses

-- lines from k on, in order, none of them a label
abbrev UsedFrom : Listing → ℕ → List ℕ → Type 0
UsedFrom lines k [] = Unit {0}
UsedFrom lines k (j ∷ js) = (k ≤ j) × (j < length lines) × (is_label (lines at j) ≡ false) × UsedFrom lines (suc j) js

found_earlier : (lines : Listing) (k : ℕ) (js : List ℕ) → UsedFrom lines (suc k) js → UsedFrom lines k js
found_earlier lines k [] o = tt
found_earlier lines k (j ∷ js) o = (omega (arith, o.0), o.1, o.2, o.3)

module _ (lines : Listing) (base-indent : ℕ) (fam : Text) (volatile : List Text) where
  gathered : (j : ℕ) (ls : Listing) (last : ℕ) → drop j lines ≡ ls → UsedFrom lines j (gather base-indent fam volatile j ls last).uses
  unfolding gather ends_run
  gathered j [] last e = tt
  gathered j (l ∷ rest) last e =
      let d = drop-step j lines l rest e in
      by-if (λ (u : Uses). UsedFrom lines j u.uses)
      (λ h. tt)
      (λ h.
      (let plain : is_label (lines at j) ≡ false = rw d.0 (neither h).0 in
      by_touch (λ (u : Uses). UsedFrom lines j u.uses)
      (λ t. by-if (λ (u : Uses). UsedFrom lines j u.uses)
      (λ o. tt)
      (λ o. found_earlier lines j (gather base-indent fam volatile (suc j) rest last).uses (gathered (suc j) rest last d.1)))
      (λ t. tt)
      (λ n t. by-if (λ (u : Uses). UsedFrom lines j u.uses)
      (λ o. (le_refl j, d.2, plain, tt))
      (λ o. (le_refl j, d.2, plain, gathered (suc j) rest j d.1)))))

module _ (edition : ℕ) (fam : Text) (expr : List Token) (lone : lone_number expr ≡ true) where
  found-later : (lines : Listing) (j k : ℕ) (js : List ℕ) → j < k → UsedFrom lines k js → UsedFrom (modify j (rewrite_use edition fam expr) lines) k js
  found-later lines j k [] h o = tt
  found-later lines j k (n ∷ js) h o =
      let after : j < n = omega (arith, o.0) in (
        o.0,
        rw length-modify o.1,
        rw (at_modify (rewrite_use edition fam expr) n j lines (λ e. omega arith)) o.2,
        found-later lines j (suc n) js (omega arith) o.3,
      )

  use_changes : (j : ℕ) (lines : Listing) → j < length lines → is_label (lines at j) ≡ false → Changes expr [] [] lines (modify j (rewrite_use edition fam expr) lines)
  unfolding rewrite_use calls_in
  use_changes j lines lt plain =
      let ts = (lines at j).tokens in
      changes_line (rewrite_use edition fam expr) j lines lt plain refl
      (λ w light. omega (arith, fold-merge_le w edition (substitute fam expr ts), substitute_le w fam expr (light lone) ts))
      (λ c. omega (arith, (fold-merge_keeps edition (substitute fam expr ts)).called c, (substitute_keeps fam expr ts).called c))

  -- the other lines stand
  uses_others : (js : List ℕ) (lines : Listing) (i : ℕ) → any (eqb i) js ≡ false → rewrite_uses edition fam expr js lines at i ≡ lines at i
  unfolding rewrite_uses
  uses_others [] lines i h = refl
  uses_others (j ∷ js) lines i h =
      uses_others js (modify j (rewrite_use edition fam expr) lines) i (neither h).1
      ∙ at_modify (rewrite_use edition fam expr) i j lines (eqb-false i j (neither h).0)

  uses_change : (k : ℕ) (js : List ℕ) (lines : Listing) → UsedFrom lines k js
      → Changes expr [] [] lines (rewrite_uses edition fam expr js lines) × ((i : ℕ) → i < k → rewrite_uses edition fam expr js lines at i ≡ lines at i)
  unfolding rewrite_uses
  uses_change k [] lines o = (unchanged expr lines, λ i h. refl)
  uses_change k (j ∷ js) lines o =
      let later = uses_change (suc j) js (modify j (rewrite_use edition fam expr) lines) (found-later lines j (suc j) js (le_refl _) o.3) in
      let here : k ≤ j = o.0 in (
        changes_trans (use_changes j lines o.1 o.2) later.0,
        λ i h. later.1 i (omega arith) ∙ at_modify (rewrite_use edition fam expr) i j lines (λ e. omega arith),
      )

-- ---- an expression, to one use

module _ (lines : Listing) (base-indent : ℕ) (fam : Text) (expr : List Token) (is_call : Bool) (volatile : List Text) where
  used : (j : ℕ) (ls : Listing) (k : ℕ) → drop j lines ≡ ls → use_from base-indent fam expr is_call volatile j ls ≡ some k
      → (j ≤ k) × (k < length lines) × (is_label (lines at k) ≡ false)
  unfolding use_from
  used j [] k e u = absurd (none-some u)
  used j (l ∷ rest) k e u =
      let d = drop-step j lines l rest e in
      let t = unless-some u in
      by_touch (λ (o : Option ℕ). o ≡ some k → (j ≤ k) × (k < length lines) × (is_label (lines at k) ≡ false))
      (λ n v. (let r = used (suc j) rest k d.1 (if_some v).1 in (omega (arith, r.0), r.1, r.2)))
      (λ n v. absurd (none-some v))
      (λ m n v. subst (λ (n : ℕ). (j ≤ n) × (n < length lines) × (is_label (lines at n) ≡ false)) (some_inj (if_some v).1) (le_refl j, d.2, rw d.0 t.0))
      t.1

-- ---- the attempt

pub is_some_some : {A : Type 0} (o : Option A) → is_some o ≡ true → (a : A) × (o ≡ some a)
is_some_some none e = absurd (true-false e refl)
is_some_some (some a) e = (a, refl)

module _ (rules : Rules) (lines : Listing) (i : ℕ) (labels : Labels) where
  -- a goal over `targets`, by whether the constant goes to all its uses
  pub by_targets : (P : List ℕ → Type 0) (a : Assignment) (f : Fam) → assignment (lines at i) ≡ some a → family a.lhs.text ≡ some f
      → let many = lone_number a.expr and is_some (propagate_constant rules.edition lines i f.name a.expr labels (volatile rules)) in
      (many ≡ true → P (all_uses lines i f (volatile rules))) → (many ≡ false → P (one_use lines i f a.expr (volatile rules)))
      → P (targets rules lines i labels)
  unfolding targets let_some◌else◌then◌
  by_targets P a f ea ef all one = rw (ea, ef) (by-if P all one)

module _ {lines : Listing} {i : ℕ} (s : Assigns lines i) (rules : Rules) (labels : Labels) (volatile : List Text) {lines' : Listing} where
  open s use {to, fam, assignment_is, family_is}

  constant-removed : lone_number to.expr ≡ true → propagate_constant rules.edition lines i fam.name to.expr labels volatile ≡ some lines'
      → Removed lines i (all_uses lines i fam volatile) lines'
  unfolding propagate_constant calls_in
  constant-removed lone e =
      let u = unless-some (unless-some e).1 in
      let found = gather (lines at i).indent fam.name volatile (suc i) (drop (suc i) lines) i in
      let r = uses_change rules.edition fam.name to.expr lone (suc i) found.uses lines (gathered lines (lines at i).indent fam.name volatile (suc i) (drop (suc i) lines) i refl) in
      record {
        assigned = s;
        between = rewrite_uses rules.edition fam.name to.expr found.uses lines;
        changes =
            record {
              places_same = r.0.places_same;
              labels_stay = r.0.labels_stay;
              weight_le = λ w h. omega (arith, r.0.weight_le w h);
              calls_ge = λ c. omega (arith, r.0.calls_ge c, number_silent c to.expr lone);
            };
        line_same = r.1 i (le_refl _);
        others_same = λ j h. uses_others rules.edition fam.name to.expr lone found.uses lines j h;
        left = sym (some_inj u.1);
      }

  join-removed : join_one rules lines i fam to.expr labels volatile ≡ some lines'
      → Removed lines i (one_use lines i fam to.expr volatile) lines'
  unfolding join_one join_at rewrite_one
  join-removed e =
      let u = bind-some e in
      let j : ℕ = u.0 in
      let place = used lines (lines at i).indent fam.name to.expr (is_some (call_at (lines at i))) volatile (suc i) (drop (suc i) lines) j refl u.1 in
      let p = bind-some (unless-some u.2).1 in
      let pos : ℕ = p.0 in
      let ts = (lines at j).tokens in
      let new = replace_at rules ts pos to.expr in
      record {
        assigned = s;
        between = modify j (rewrite_one rules pos to.expr) lines;
        changes =
            changes_line (rewrite_one rules pos to.expr) j lines place.1 place.2 refl
            (λ w h. omega (arith, fold-merge_le w rules.edition new, replaced_le w rules fam.name ts pos (assigns (lines at i).tokens to assignment_is) p.1))
            (λ c. omega (arith, (fold-merge_keeps rules.edition new).called c, (replaced_keeps rules fam.name ts to.expr pos p.1).called c));
        line_same = at_modify (rewrite_one rules pos to.expr) i j lines (λ e. omega (arith, place.0));
        others_same = λ k h. at_modify (rewrite_one rules pos to.expr) k j lines (eqb-false k j (neither (rw (one_use_is lines i fam to.expr volatile u.1) at h)).0);
        left = sym (some_inj (if_some p.2).1);
      }

not_found : {A : Type 0} (b : Bool) (o : Option A) → (when b then o else none) ≡ none → (b and is_some o) ≡ false
unfolding when◌then◌else◌ ◌and◌
not_found true none e = refl
not_found true (some a) e = absurd (none-some (sym e))
not_found false o e = refl

pub attempt_removed : (rules : Rules) (lines : Listing) (i : ℕ) (labels : Labels) (addressed : List Text) {lines' : Listing}
    → try_at rules lines i labels addressed ≡ some lines' → Removed lines i (targets rules lines i labels) lines'
unfolding try_at
attempt_removed rules lines i labels addressed {lines'} e =
    let a = bind-some e in
    let f = bind-some a.2 in
    let s : Assigns lines i = record { to = a.0; fam = f.0; assignment_is = a.1; family_is = f.1 } in
    let constant : Option Listing = propagate_constant rules.edition lines i f.0.name a.0.expr labels (volatile rules) in
    by-some (λ (o : Option Listing). o ≡ some lines' → Removed lines i (targets rules lines i labels) lines')
    (λ n u. by_targets rules lines i labels (λ js. Removed lines i js lines') a.0 f.0 a.1 f.1
    (λ t. absurd (true-false t (not_found (lone_number a.0.expr) constant n)))
    (λ t. join-removed s rules labels (volatile rules) u))
    (λ l h u. (let c = if_some (h ∙ u) in
    by_targets rules lines i labels (λ js. Removed lines i js lines') a.0 f.0 a.1 f.1
    (λ t. constant-removed s rules labels (volatile rules) c.0 c.1)
    (λ t. absurd (true-false (pair c.0 (ap is_some c.1)) t))))
    (unless-some f.2).1

-- ---- the lines that it is joined into

-- one line at least, and all of them behind line i
pub record Joined (i n : ℕ) (js : List ℕ) : Type 0 where
  pub some_line : 1 ≤ length js
  pub each : All (λ j. (i < j) × (j < n)) js

found_all : (lines : Listing) (i k : ℕ) (js : List ℕ) → i < k → UsedFrom lines k js → All (λ j. (i < j) × (j < length lines)) js
found_all lines i k [] h o = tt
found_all lines i k (j ∷ js) h o = ((omega (arith, o.0), o.1), found_all lines i (suc j) js (omega (arith, o.0)) o.3)

not-empty : {A : Type 0} (xs : List A) → is_empty xs ≡ false → 1 ≤ length xs
not-empty [] e = absurd (true-false refl e)
not-empty (x ∷ xs) e = omega arith

module _ (rules : Rules) (lines : Listing) (i : ℕ) (f : Fam) (expr : List Token) (labels : Labels) (volatile : List Text) {lines' : Listing} where
  constant-joined : propagate_constant rules.edition lines i f.name expr labels volatile ≡ some lines'
      → Joined i (length lines) (all_uses lines i f volatile)
  unfolding propagate_constant
  constant-joined e =
      let indent : ℕ = (lines at i).indent in
      let found = gather indent f.name volatile (suc i) (drop (suc i) lines) i in
      record {
        some_line = not-empty found.uses (neither (unless-some e).0).0;
        each = found_all lines i (suc i) found.uses (le_refl _) (gathered lines indent f.name volatile (suc i) (drop (suc i) lines) i refl);
      }

  one_joined : join_one rules lines i f expr labels volatile ≡ some lines' → Joined i (length lines) (one_use lines i f expr volatile)
  unfolding join_one let_some◌else◌then◌
  one_joined e =
      let u = bind-some e in
      let place = used lines (lines at i).indent f.name expr (is_some (call_at (lines at i))) volatile (suc i) (drop (suc i) lines) u.0 refl u.1 in
      rw u.1 (record { some_line = omega arith; each = ((place.0, place.1), tt) })

module _ (rules : Rules) (lines : Listing) (i : ℕ) (labels : Labels) where
  -- A LINE THAT IS REMOVED IS JOINED INTO ONE LINE AT LEAST
  pub attempt_joined : (addressed : List Text) {lines' : Listing} → try_at rules lines i labels addressed ≡ some lines'
      → Joined i (length lines) (targets rules lines i labels)
  unfolding try_at
  attempt_joined addressed {lines'} e =
      let a = bind-some e in
      let f = bind-some a.2 in
      let expr : List Token = a.0.expr in
      let constant : Option Listing = propagate_constant rules.edition lines i f.0.name expr labels (volatile rules) in
      by_targets rules lines i labels (λ js. Joined i (length lines) js) a.0 f.0 a.1 f.1
      (λ t. constant-joined rules lines i f.0 expr labels (volatile rules) (is_some_some constant (both t).1).1)
      (λ t. by-some (λ (o : Option Listing). o ≡ some lines' → Joined i (length lines) (one_use lines i f.0 expr (volatile rules)))
      (λ n u. one_joined rules lines i f.0 expr labels (volatile rules) u)
      (λ l h u. (let c = if_some h in absurd (true-false (pair c.0 (ap is_some c.1)) t)))
      (unless-some f.2).1)
