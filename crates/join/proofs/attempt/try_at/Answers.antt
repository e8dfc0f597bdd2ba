-- `join::attempt::try_at` meets its contract. Assumes nothing.
use mathlib.Core.Path.{refl}
use Rattle.ground.specs.Rules.{rules_of}
use Rattle.raising.proofs.Lending.{tables_then}
use Rattle.join.proofs.Trying.{nothing-done, plannable, joined-done, line_inside, left-bare, left-inside, raised-done}
use Rattle.join.proofs.attempt.try_at.Goals as goal

pub returns-in_err-j-clause-attempted : goal.returns-in_err-j-clause-attempted
returns-in_err-j-clause-attempted c =
    let p = c.requires in
    rw c.from_residual.ensures (nothing-done (rules_of c.args.rules) (p.0, p.1) c.plan_at.ensures c.in_err-j.was refl)

pub raise_before-own-requires : goal.raise_before-own-requires
raise_before-own-requires c =
    let p = c.requires in
    (plannable (rules_of c.args.rules) (p.0, p.1) c.plan_at.ensures c.in_ok-j.was, p.0.current, p.0.limits, p.0.words_short, p.2)

pub apply-after-requires : goal.apply-after-requires
apply-after-requires c =
    let p = c.requires in
    (plannable (rules_of c.args.rules) (p.0, p.1) c.plan_at.ensures c.in_ok-j.was, p.0.current, p.0.lent, p.0.for_marks)

pub raise_after-requires : goal.raise_after-requires
raise_after-requires c =
    let p = c.requires in
    let acted = c.apply-after.ensures.acted in
    let left = left-inside (rules_of c.args.rules) (p.0, p.1) c.plan_at.ensures c.in_ok-j.was c.apply-after.new.room acted in
    (acted.current, left.0, left.1, c.raise_before-own.ensures.halfway.kept.room)

pub returns : goal.returns
returns c =
    let p = c.requires in
    let e = c.apply-after.ensures in
    let rules = rules_of c.args.rules in
    let d = c.plan_at.ensures in
    let was = c.in_ok-j.was in
    let before = c.raise_before-own.ensures in
    let after = c.raise_after.ensures in
    record {
      attempted = joined-done rules (p.0, p.1) d was c.apply-after.new.room e.carried e.acted;
      raised =
          raised-done rules (p.0, p.1) d was c.apply-after.new.room e.acted
          (after.raised rules _ _ _ before.halfway (left-bare rules (p.0, p.1) d was c.apply-after.new.room e.acted) (line_inside rules (p.0, p.1) d was));
      lent = e.lent;
      lent_raising = tables_then before.lent after.lent;
    }
