-- `life::touches::overwrites` meets its contract. Assumes nothing.
use borrow.Author.Rules.{rules}
use borrow.Author.Tests.{not-true}
use Rattle.lines.proofs.shapes.Sides.{assigned-side}
use Rattle.life.proofs.Touching.{kills_none, kills_to, kills-no_token, kills-first}
use Rattle.life.proofs.touches.overwrites.Goals as goal

pub returns-in_default : goal.returns-in_default
returns-in_default c = search (rules, kills-no_token)

pub returns-then-not-is_of : goal.returns-then-not-is_of
returns-then-not-is_of c = search (rules, not-true, kills-first)

pub returns-in_default-assignment : goal.returns-in_default-assignment
returns-in_default-assignment c = search (rules, kills_none)

pub assigns_anew-requires : goal.assigns_anew-requires
assigns_anew-requires c = search (rules, assigned-side)

pub returns : goal.returns
returns c = search (rules, kills_to)
