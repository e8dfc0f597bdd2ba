-- `start::reckoning::start_pair` meets its contract. Assumes nothing.
use Prim.Native.Nat.{ℕ}
use mathlib.Core.Path.{sym, ap, ◌∙◌}
use Rattle.laws.proofs.Scans.{if-true, if-false}
use Rattle.start.proofs.reckoning.start_pair.Goals as goal

pub returns-then-same : goal.returns-then-same
returns-then-same c = λ es q. sym (if-true _ _ (sym c.same.ensures ∙ c.if-same.true))

pub returns : goal.returns
returns c = λ es q. ap (λ (n : ℕ). (0, n)) (c.value_of.ensures es q) ∙ sym (if-false _ _ (sym c.same.ensures ∙ c.if-same.false))
