-- `test_leaves::compared` meets its contract: what is counted so far, and what the rest has, make the whole. Assumes nothing.
use native.Mathlib.Omega.{arith}
use mathlib.Core.Path.{◌≡◌, refl, ap, ◌∙◌}
use lib.Dec.{eqb}
use lib.ListN.{length}
use borrow.Author.Rules.{rules}
use Rattle.std.proofs.Common.{of_calls}
use Rattle.std.proofs.lemmas.Fn.{always_returns_same}
use Rattle.test_leaves.proofs.Separators.{before-length, behind-length, piece-length, piece}
use Rattle.test_leaves.proofs.Answering.{no_line, one_line, line_counted}
use Rattle.test_leaves.proofs.compared.Goals as goal

pub agrees-requires : goal.agrees-requires
agrees-requires c =
    let s = c.loop-line.line-iterator.rest.now in
    let x = c.in-Some.line.now in
    omega (arith, ap length c.before-in-loop-line.ensures, before-length 10 x, piece-length s x c.next.new.self.rest.now c.in-Some.ensures.steps.0)

pub loop-line-preserved : goal.loop-line-preserved
loop-line-preserved c =
    let s = c.loop-line.line-iterator.rest.now in
    let m = c.in-Some.ensures.steps in
    let first = (m.1.2 (λ x. eqb x 10) (always_returns_same _ (λ a r. r ≡ eqb a.0.now 10) _ (λ a r q k. (search (rules, of_calls), refl)))).1 in
    let parts = piece s c.in-Some.line.now c.next.new.self.rest.now m.1.0 m.0 m.1.1 first.0 first.1 in
    let line = c.before-in-loop-line.ensures ∙ parts.0 in
    let rest = parts.1 in
    let shorter = behind-length 10 s in
    let rest-length = ap length rest in
    let one = one_line s m.2 line rest in
    let counts = c.loop-line.counts in
    let differs = line_counted s m.2 line rest _ c.agrees.ensures counts c.with-counts.ensures.value in
    (search rules, search rules, search rules, search rules, omega (arith, differs))

pub returns : goal.returns
returns c =
    let none = no_line c.loop-line.line-iterator.rest.now c.in-None.ensures.steps.0 in
    search rules
