-- `rounds::rounds::turn` meets its contract. Assumes nothing.
use Rattle.std.proofs.Common.{rules, ◌≡◌}
use Rattle.std.specs.Prelude.{pred}
use mathlib.Core.Logic.{inr}
use mathlib.Core.Path.{refl}
use Rattle.rounds.proofs.rounds.turn.Goals as goal

pub returns-clause-turned : goal.returns-clause-turned
returns-clause-turned c =
    let e = c.try_at.ensures in
    let back : c.saturating_sub.result ≡ pred c.args.r.next = search rules in
    inr (record {
      next_is = back;
      attempts_are = refl;
      removed_is = refl;
      joined = e.attempted.succeeded c.in-Some.size c.in-Some.is;
      raised = e.raised.succeeded c.in-Some.size c.in-Some.is;
      labels_are = c.shift_labels.ensures;
    })
