-- What one step does to a listing. Lines change in place (`Changes`), and an attempt that succeeds takes its own line out besides (`Removed`); what
-- demand 3 says of a step, and what carries it on to the next, follows from these two. Assumes nothing.
use Prim.Native.Nat.{ℕ, suc, ◌+◌, ◌≤◌, ◌<◌}
use native.Mathlib.Omega.{arith}
use mathlib.Core.Path.{◌≡◌, refl, sym, ap, ◌∙◌}
use mathlib.Core.Bool.{false}
use mathlib.Core.List.Sublistᴰ
use mathlib.Core.List.{List, [], Sublistᴰ}
use mathlib.Core.Option.{Option, some}
use lib.Dec.{eqb}
use lib.ListN.{length, length-map}
use Rattle.reference.specs.Lists.{any, remove, modify}
use Rattle.reference.specs.Listing.{Token, Line, Listing, ◌at◌}
use Rattle.reference.specs.Names.{Fam, family, fam_of}
use Rattle.reference.specs.Shapes.{Assignment, assignment, is_label}
use Rattle.reference.specs.Claim.{Callee, calls_in, calls, pair_of, pairs_of, label_lines}
use Rattle.reference.specs.Demand.{Removes, Step}
use Rattle.reference.proofs.Cases.{by-if, true-false}
use Rattle.reference.proofs.Shapes.{assigns, assigning-register, assigning-plain, inside}
use Rattle.reference.proofs.Weights.{Weight, weight, total, Light, count, count_is, light, light_nothing}
use Rattle.reference.proofs.Calls.{assigned-calls}
use Rattle.reference.proofs.Lines.{sum-remove, sum-modify, length-remove, places_modify, places_remove, labels_modify, labels_remove}

-- ---- lines changed in place

-- `lines'` is `lines` with an expression joined into some lines: it weighs `extra` more at most, and has the calls of `gained` besides
pub record Changes (expr extra gained : List Token) (lines lines' : Listing) : Type 0 where
  pub places_same : pairs_of lines' ≡ pairs_of lines
  pub labels_stay : Sublistᴰ (label_lines lines) (label_lines lines')
  pub weight_le : (w : Weight) → Light w expr → total w lines' ≤ total w lines + weight w extra
  pub calls_ge : (c : Callee) → calls c lines + calls_in c gained ≤ calls c lines'

pub unchanged : (expr : List Token) (lines : Listing) → Changes expr [] [] lines lines
unfolding calls_in
unchanged expr lines =
    record { places_same = refl; labels_stay = Sublistᴰ.refl _; weight_le = λ w h. omega arith; calls_ge = λ c. omega arith }

pub changes_trans : {expr : List Token} {xs ys zs : Listing} → Changes expr [] [] xs ys → Changes expr [] [] ys zs → Changes expr [] [] xs zs
unfolding calls_in
changes_trans p q =
    record {
      places_same = q.places_same ∙ p.places_same;
      labels_stay = Sublistᴰ.trans p.labels_stay q.labels_stay;
      weight_le = λ w h. omega (arith, p.weight_le w h, q.weight_le w h);
      calls_ge = λ c. omega (arith, p.calls_ge c, q.calls_ge c);
    }

-- one line changed
pub changes_line : {expr extra gained : List Token} (g : Line → Line) (j : ℕ) (lines : Listing) → j < length lines → is_label (lines at j) ≡ false
    → pair_of (g (lines at j)) ≡ pair_of (lines at j)
    → ((w : Weight) → Light w expr → weight w (g (lines at j)).tokens ≤ weight w (lines at j).tokens + weight w extra)
    → ((c : Callee) → calls_in c (lines at j).tokens + calls_in c gained ≤ calls_in c (g (lines at j)).tokens)
    → Changes expr extra gained lines (modify j g lines)
changes_line g j lines lt plain same light' calls' =
    record {
      places_same = places_modify g j lines same;
      labels_stay = labels_modify g j lines plain;
      weight_le = λ w h. omega (arith, light' w h, sum-modify (λ l. weight w l.tokens) g j lines lt);
      calls_ge = λ c. omega (arith, calls' c, sum-modify (λ l. calls_in c l.tokens) g j lines lt);
    }

pub changes-step : {lines lines' : Listing} → Changes [] [] [] lines lines' → Step lines lines'
unfolding calls_in
changes-step {lines} {lines'} h =
    record {
      calls_stay = λ c. omega (arith, h.calls_ge c);
      tokens_stay = omega (arith, h.weight_le count (light_nothing count), count_is lines, count_is lines');
    }

-- ---- a line taken out

-- the line i assigns to a register or a stack slot
pub record Assigns (lines : Listing) (i : ℕ) : Type 0 where
  pub to : Assignment
  pub fam : Fam
  pub assignment_is : assignment (lines at i) ≡ some to
  pub family_is : family to.lhs.text ≡ some fam

-- its expression is joined into other lines, those at `into`, and it goes
pub record Removed (lines : Listing) (i : ℕ) (into : List ℕ) (lines' : Listing) : Type 0 where
  pub assigned : Assigns lines i
  pub between : Listing
  pub changes : Changes assigned.to.expr (lines at i).tokens assigned.to.expr lines between
  pub line_same : between at i ≡ lines at i
  pub others_same : (j : ℕ) → any (eqb j) into ≡ false → between at j ≡ lines at j
  pub left : lines' ≡ remove i between

same_length : (lines lines' : Listing) → pairs_of lines' ≡ pairs_of lines → length lines' ≡ length lines
same_length lines lines' e = sym (length-map lines' pair_of) ∙ ap length e ∙ length-map lines pair_of

module _ {lines : Listing} {i : ℕ} {into : List ℕ} {lines' : Listing} (r : Removed lines i into lines') where
  open r use {assigned, between, changes, line_same, others_same, left}
  open assigned use {to, fam, assignment_is, family_is}

  in_range : i < length lines
  in_range = inside lines i assignment_is

  pub removed-length : suc (length lines') ≡ length lines
  removed-length =
      let same : length between ≡ length lines = same_length lines between changes.places_same in
      ap (λ (l : Listing). suc (length l)) left ∙ length-remove i between (rw same in_range) ∙ same

  pub removed_places : Sublistᴰ (pairs_of lines') (pairs_of lines)
  removed_places = rw left (rw changes.places_same at (places_remove i between))

  pub removed_labels : Sublistᴰ (label_lines lines) (label_lines lines')
  removed_labels =
      rw left (Sublistᴰ.trans changes.labels_stay (labels_remove i between (rw line_same (assigning-plain (assigns (lines at i).tokens to assignment_is)))))

  pub removed_le : (w : Weight) → Light w to.expr → total w lines' ≤ total w lines
  removed_le w h =
      rw left
      (let same : weight w (between at i).tokens ≡ weight w (lines at i).tokens = ap (λ (l : Line). weight w l.tokens) line_same in
      omega (arith, changes.weight_le w h, sum-remove (λ l. weight w l.tokens) refl i between))

  removed-calls : (c : Callee) → calls c lines ≤ calls c lines'
  unfolding calls_in
  removed-calls c =
      rw left
      (let same : calls_in c (between at i).tokens ≡ calls_in c (lines at i).tokens = ap (λ (l : Line). calls_in c l.tokens) line_same in
      omega (
        arith,
        changes.calls_ge c,
        sum-remove (λ l. calls_in c l.tokens) refl i between,
        assigned-calls (assigns (lines at i).tokens to assignment_is) c,
      ))

  register_is : fam_of to.lhs ≡ some fam
  unfolding fam_of
  register_is =
      by-if (λ (o : Option Fam). o ≡ some fam) (λ u. family_is)
      (λ u. absurd (true-false (assigning-register (assigns (lines at i).tokens to assignment_is)) u))

  pub removed-gone : Removes lines i into lines'
  removed-gone =
      record {
        in_range = in_range;
        assigned = record { to = to; name = fam; is_assignment = assignment_is; is_register = register_is };
        joined = between;
        pairs_stand = changes.places_same;
        others_stand = others_same;
        left = left;
      }

  pub removed-step : Step lines lines'
  removed-step =
      record {
        calls_stay = removed-calls;
        tokens_stay = omega (arith, removed_le count (light count (λ m n. omega arith) to.expr), count_is lines, count_is lines');
      }
