-- `plan::plans::plan_among` meets its contract. Assumes nothing.
use Rattle.std.proofs.Common.{rules, refl}
use Rattle.life.proofs.Jumping.{lined-holds}
use Rattle.plan.proofs.Deciding.{sound-known, sound-side, found_inside, among_none, among_unfit, among_joins}
use Rattle.plan.proofs.plans.plan_among.Goals as goal

pub returns-in_err-pos : goal.returns-in_err-pos
returns-in_err-pos c = among_none _ _ _ _ _ _ _ c.args.d c.line_of-line.ensures _ c.first_of.ensures c.in_err-pos.was (search rules)

pub use_fits-requires : goal.use_fits-requires
use_fits-requires c = (
  lined-holds (c.requires.0.at c.args.j (search rules)) c.line_of-line.ensures,
  found_inside _ _ _ _ c.first_of.ensures c.in_ok-pos.was,
  sound-known c.requires.1,
)

pub returns-then-not-use_fits : goal.returns-then-not-use_fits
returns-then-not-use_fits c = among_unfit _ _ _ _ _ _ _ c.args.d c.line_of-line.ensures _ c.first_of.ensures c.in_ok-pos.was c.use_fits.ensures (search rules) refl

pub wants_brackets-brackets-requires : goal.wants_brackets-brackets-requires
wants_brackets-brackets-requires c = (
  lined-holds (c.requires.0.at c.args.i (search rules)) c.line_of-source.ensures,
  sound-side c.requires.1 c.line_of-source.ensures,
  lined-holds (c.requires.0.at c.args.j (search rules)) c.line_of-line.ensures,
  found_inside _ _ _ _ c.first_of.ensures c.in_ok-pos.was,
)

pub returns : goal.returns
returns c =
    among_joins _ _ _ _ _ _ _ c.args.d c.line_of-line.ensures _ c.first_of.ensures c.in_ok-pos.was c.use_fits.ensures
    (search rules) c.requires.1 c.line_of-source.ensures c.wants_brackets-brackets.ensures c.join_of.ensures
