-- `flow::ways::of_empty` meets its contract. Assumes nothing.
use native.Mathlib.Numerals.{add-one}
use mathlib.Core.Path.{refl}
use borrow.Author.Tests.{eq-eqb, ne_eqb}
use Rattle.laws.proofs.Scans.{if_here, if-there}
use Rattle.flow.proofs.ways.of_empty.Goals as goal

pub returns-then-k-eq0 : goal.returns-then-k-eq0
returns-then-k-eq0 c = λ lines. if_here _ (eq-eqb c.args.k 0 c.if-k-eq0.true) (rw (add-one c.args.k) refl)

pub returns-else-k-eq0 : goal.returns-else-k-eq0
returns-else-k-eq0 c = λ lines. if-there _ (ne_eqb c.args.k 0 c.if-k-eq0.false) refl
