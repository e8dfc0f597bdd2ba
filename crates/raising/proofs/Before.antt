-- What is known where a join begins: its tables. Assumes nothing.
use Prim.Native.Nat.{ℕ, ◌≤◌}
use native.Mathlib.Omega.{arith}
use mathlib.Core.Path.{◌≡◌, sym, ap, ◌∙◌, subst}
use mathlib.Core.Bool.{true}
use mathlib.Core.List.{List}
use lib.ListN.{length, take}
use lib.Seq.{length-take-le}
use borrow.Author.Tests.{lt-ltb}
use Rattle.std.proofs.lemmas.List.{get_or-take}
use Rattle.reference.specs.Listing.{◌at◌}
use Rattle.reference.specs.Rules.{Rules}
use Rattle.lines.specs.Texts.{bare_listing}
use Rattle.lines.specs.declared.texts.Listing as held
use Rattle.plan.specs.declared.plans.Join.{Join}
use Rattle.flow.specs.Blocks.{no_form}
use Rattle.flow.specs.LineForms.{Formed}
use Rattle.flow.specs.Ways.{FormsOf}
use Rattle.flow.specs.declared.lineforms.LineForm.{LineForm}
use Rattle.raising.specs.Tables.{is_on, Gathered}
use mathlib.Core.Option.{some}
use Rattle.std.specs.Prelude as std
use Rattle.reference.specs.Names.{Fam}
use Rattle.reference.proofs.Cases.{some_inj}
use Rattle.usefacts.specs.declared.parts.Before.{Before}
use Rattle.ground.specs.Rules.{rules_of}
use Rattle.ground.specs.declared.rules.Rules as code
use Rattle.lines.specs.Fams.{Names}
use Rattle.lines.specs.Texts.{fam_text}
use Rattle.lines.specs.declared.fams.Named.{Named}
use Rattle.lines.specs.declared.texts.Texts.{Texts}
use Rattle.lines.proofs.fams.Families.{named_as}
use Rattle.raising.specs.Spread.{marked}
use Rattle.raising.specs.Noting.{ToldBy, fam_of, lines_of, plan_of}
use Rattle.raising.specs.Halfway.{Begun, shared_kinds}
use Rattle.raising.specs.declared.noting.Noting.{Noting}
use Rattle.raising.specs.Steps.{into, plan_in}
use Rattle.raising.specs.declared.tables.Raising.{Raising}
use Rattle.raising.proofs.Told.{long}

pub on_if : (r : Raising) → (length r.sets.now ≡ 0 → ⊥) → is_on r ≡ true
on_if r e = lt-ltb 0 (length r.sets.now) (omega (arith, e))

-- the forms of a listing stand at the front of the table
pub forms_of_listing : {h : held.Listing} (forms : List LineForm) → length h.lines.now ≤ length forms → Gathered (bare_listing h) forms
    → FormsOf h (take (length h.lines.now) forms)
forms_of_listing {h} forms room g =
    let n = length h.lines.now in
    record {
      long = length-take-le n forms room;
      each = λ m b. subst (λ (f : LineForm). Formed (bare_listing h at m).tokens f) (sym (get_or-take n forms m no_form b)) (g m (omega (arith, long h, b)));
    }

-- ---- the join with what was found out about it

abbrev famed : Texts → Named → Fam
famed t m = record { name = fam_text t m.family; width = m.width; lowest = m.lowest }

module _ {rules : code.Rules} {h : held.Listing} {j : Join} {f : Fam} (n : Noting) (eh : n.g.listing ≡ h) (ej : n.plan ≡ j) (er : n.rules ≡ rules) where
  pub fam_is : {m : Named} {r : std.Option Named} → n.name ≡ m → r ≡ std.Some m → Names h.texts.tape.now h.texts.area.now (some f) r → fam_of n ≡ f
  fam_is {m} em is names =
      ap (λ (l : held.Listing). famed l.texts n.name) eh ∙ ap (famed h.texts) em ∙ sym (some_inj (named_as names is))

  module _ (ef : fam_of n ≡ f) where
    carried : (P : Rules → held.Listing → Join → Fam → Type 0) → P (rules_of n.rules) n.g.listing n.plan (fam_of n) → P (rules_of rules) h j f
    carried P x =
        subst (λ (g : Fam). P (rules_of rules) h j g) ef
        (subst (λ (k : Join). P (rules_of rules) h k (fam_of n)) ej
        (subst (λ (l : held.Listing). P (rules_of rules) l n.plan (fam_of n)) eh
        (subst (λ (q : code.Rules). P (rules_of q) n.g.listing n.plan (fam_of n)) er x)))

    -- what is known of its tables then
    pub begun : {parts : List (std.Option Before)} {sets sets' : List ℕ} {own : ℕ}
        → ToldBy (rules_of n.rules) (lines_of n) n.plan.line (plan_of n) (fam_of n) parts
        → take (length n.g.listing.lines.now) sets'
        ≡ marked (rules_of n.rules) (lines_of n) n.plan.line (fam_of n).name (into (rules_of n.rules) (lines_of n) n.plan.line (plan_of n))
        (take (length n.g.listing.lines.now) sets)
        → own ≡ shared_kinds (rules_of n.rules) (lines_of n) n.plan.line (plan_of n) (fam_of n)
        → Begun (rules_of rules) (bare_listing h) j.line (plan_in h j) f parts sets sets' own
    begun {parts} {sets} {sets'} {own} told marks eo =
        record {
          told = carried (λ q l k g. ToldBy q (bare_listing l) k.line (plan_in l k) g parts) told;
          sets = rw (long h) (carried (λ q l k g. take (length l.lines.now) sets'
              ≡ marked q (bare_listing l) k.line g.name (into q (bare_listing l) k.line (plan_in l k)) (take (length l.lines.now) sets)) marks);
          own_is = carried (λ q l k g. own ≡ shared_kinds q (bare_listing l) k.line (plan_in l k) g) eo;
        }
