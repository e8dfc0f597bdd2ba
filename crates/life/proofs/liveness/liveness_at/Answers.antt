-- `life::liveness::liveness_at` meets its contract. Assumes nothing.
use borrow.Author.Rules.{rules}
use Rattle.life.proofs.Scanning.{liveness_use, liveness_none, liveness_kill, liveness_deep}
use mathlib.Core.Path.{refl}
use Rattle.life.specs.declared.touches.Touched.TheVariants.{Nothing}
use Rattle.life.proofs.liveness.liveness_at.Goals as goal

pub returns-in-Use : goal.returns-in-Use
returns-in-Use c = search (rules, liveness_use)

pub returns-in-Kill : goal.returns-in-Kill
returns-in-Kill c = search (rules, liveness_kill)

pub returns-in-Kill-2 : goal.returns-in-Kill-2
returns-in-Kill-2 c = search (rules, liveness_deep)

pub returns-in-Kill-2-2 : goal.returns-in-Kill-2-2
returns-in-Kill-2-2 c = let g = c.args.listing.now in liveness_none g.texts.tape.now g.texts.area.now g.tokens.now c.args.l _ _ _ c.line_of.ensures Nothing c.in-Kill-2.ensures refl
