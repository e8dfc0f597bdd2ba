-- `raising::noting::told_at` meets its contract. Assumes nothing.
use mathlib.Core.Path.{sym, ap, ◌∙◌}
use Rattle.std.specs.Prelude as std
use Rattle.ground.specs.Rules.{rules_of}
use Rattle.lines.specs.Texts.{words_at}
use Rattle.usefacts.specs.declared.parts.Before.{Before}
use Rattle.raising.specs.Noting.{fam_of, lines_of, plan_of}
use Rattle.raising.proofs.Told.{told_none, told_some, changed_at}
use Rattle.raising.proofs.noting.told_at.Goals as goal

pub returns-then-is_changed : goal.returns-then-is_changed
returns-then-is_changed c e =
    let n = c.args.n.now in
    let b = c.before_at.ensures _ e in
    let changed = changed_at n c.args.k c.requires.1 (c.is_changed.ensures (words_at n.g.listing n.plan.line)) c.if-is_changed.true in
    ap (λ (b : Before). std.Some b) (rw c.requires.0.expr_is at b)
    ∙ sym (told_some (rules_of n.rules) (lines_of n) n.plan.line (plan_of n) (fam_of n) c.args.k changed)

pub returns-else-is_changed : goal.returns-else-is_changed
returns-else-is_changed c e =
    let n = c.args.n.now in
    let kept = changed_at n c.args.k c.requires.1 (c.is_changed.ensures (words_at n.g.listing n.plan.line)) c.if-is_changed.false in
    sym (told_none (rules_of n.rules) (lines_of n) n.plan.line (plan_of n) (fam_of n) c.args.k kept)
