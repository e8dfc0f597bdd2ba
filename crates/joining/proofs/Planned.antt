-- What is known where a plan was made: the definition it comes from, the lines that it reaches, and which of the two joins it is.
-- Assumes nothing.
use Prim.Native.Nat.{ℕ, suc, ◌<◌}
use mathlib.Core.Path.{◌≡◌, refl, ◌∙◌, subst}
use mathlib.Core.Bool.{true, false}
use mathlib.Core.List.{List, [], ◌∷◌}
use mathlib.Core.Option.{Option, some}
use lib.ListN.{drop}
use Rattle.reference.specs.Lists.{position}
use Rattle.reference.specs.Text.{Text}
use Rattle.reference.specs.Listing.{Listing, ◌at◌}
use Rattle.reference.specs.Names.{of_family}
use Rattle.reference.specs.Rules.{Rules, volatile}
use Rattle.reference.specs.Life.{Labels}
use Rattle.reference.specs.Join.{substitute, replace_at, lone_number}
use Rattle.reference.proofs.Cases.{by-some, some_inj, if_some, unless-some, bind-some}
use Rattle.joining.specs.Plan.{Definition, definition_of, Plan, plan_reach, plan_constant, use_of, plan_use, plan_single, plan_for, decide, wants_brackets, right_side_of}
use Rattle.joining.proofs.Uses.{uses_upto, single_use}
use Rattle.joining.proofs.Straight.{Reached, use_found}
use Rattle.joining.proofs.Reaching.{reach-reached}
use Rattle.joining.proofs.Single.{use_count, replaced_one}
use Rattle.joining.proofs.Deciding.{inside}

-- a number goes to several uses without brackets; anything else to the one token that uses it
pub data Way (rules : Rules) (lines : Listing) (i : ℕ) (p : Plan) : Type 0 where
  constant : lone_number p.expr ≡ true → p.brackets ≡ false → Way rules lines i p
  single : (pos : ℕ) → i < p.last → uses_upto p.fam (volatile rules) p.last (suc i) (drop (suc i) lines) ≡ p.last ∷ []
      → position (of_family p.fam) (lines at p.last).tokens ≡ some pos
      → substitute p.fam (right_side_of p) (lines at p.last).tokens ≡ replace_at rules (lines at p.last).tokens pos p.expr
      → Way rules lines i p

pub record Planned (rules : Rules) (lines : Listing) (i : ℕ) (p : Plan) : Type 0 where
  pub def : Definition
  pub known : definition_of (lines at i).tokens ≡ some def
  pub same_fam : p.fam ≡ def.fam.name
  pub same_expr : p.expr ≡ def.expr
  pub reached : Reached lines (suc i) p.last
  pub way : Way rules lines i p

module _ (rules : Rules) (lines : Listing) (i : ℕ) (labels : Labels) (p : Plan) where
  module _ (d : Definition) (known : definition_of (lines at i).tokens ≡ some d) where
    from-constant : lone_number d.expr ≡ true → plan_constant lines i d labels (volatile rules) ≡ some p → Planned rules lines i p
    unfolding plan_constant plan_reach
    from-constant n e =
        subst (Planned rules lines i) (some_inj (if_some e).1)
        (record {
          def = d;
          known = known;
          same_fam = refl;
          same_expr = refl;
          reached = reach-reached lines i d.fam.name (volatile rules) (inside lines i d known);
          way = constant n refl;
        })

    from-single : plan_single rules lines i d labels (volatile rules) ≡ some p → Planned rules lines i p
    unfolding plan_single plan_use use_of
    from-single e =
        let j = bind-some e in
        let pos = bind-some (unless-some j.2).1 in
        let u = use_found lines (lines at i).indent d.fam.name (volatile rules) d.expr d.calls (suc i) (drop (suc i) lines) j.0 refl j.1 in
        subst (Planned rules lines i) (some_inj (if_some pos.2).1)
        (record {
          def = d;
          known = known;
          same_fam = refl;
          same_expr = refl;
          reached = u.reached;
          way =
              single pos.0 u.later
              (single_use d.fam.name (volatile rules) (lines at i).indent d.expr d.calls (suc i) (drop (suc i) lines) j.0 j.1)
              pos.1
              (replaced_one rules (record { fam = d.fam.name; expr = d.expr; last = j.0; brackets = wants_brackets rules d.expr (lines at j.0).tokens pos.0 })
              (lines at j.0).tokens pos.0 refl pos.1 (use_count (lines at j.0).tokens d.fam.name (volatile rules) 1 u.once));
        })

    from_plan : plan_for rules lines i d labels (volatile rules) ≡ some p → Planned rules lines i p
    unfolding plan_for
    from_plan =
        by-some (λ (o : Option Plan). o ≡ some p → Planned rules lines i p)
        (λ c e. from-single e)
        (λ q c e. (let n = if_some (c ∙ e) in from-constant n.0 n.1))

  pub planned : (addressed : List Text) → decide rules lines i labels addressed ≡ some p → Planned rules lines i p
  unfolding decide
  planned addressed e = let d = bind-some e in from_plan d.0 d.1 (unless-some d.2).1
