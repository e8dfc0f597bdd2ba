-- `start::reckoning::is_same` meets its contract. Assumes nothing.
use borrow.Author.Rules.{rules}
use Rattle.start.proofs.Pricing.{other_kind, same_kind}
use Rattle.start.proofs.reckoning.is_same.Goals as goal

pub returns-else-kind-eq-REGISTER : goal.returns-else-kind-eq-REGISTER
returns-else-kind-eq-REGISTER c = search (rules, other_kind)

pub returns-then-kind-eq-REGISTER : goal.returns-then-kind-eq-REGISTER
returns-then-kind-eq-REGISTER c = search (rules, same_kind)
