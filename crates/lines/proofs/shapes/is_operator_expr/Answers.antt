-- `lines::shapes::is_operator_expr` meets its contract. Assumes nothing.
use borrow.Author.Rules.{rules}
use native.Mathlib.Omega.{arith}
use Rattle.lines.proofs.shapes.Right.{expr-length, expr-points}
use Prim.Native.Nat.{ℕ, ◌<◌}
use Rattle.lines.proofs.words.Chains.{serves_places, any_at_places}
use Rattle.lines.specs.Shapes.{expr_words}
use Rattle.reference.specs.Shapes.{is_operator}
use Rattle.lines.proofs.shapes.Tests.{operator-few, operator_many}
use borrow.Author.Tests.{le-ltb}
use mathlib.Core.Path.{◌≡◌, ◌∙◌}
use lib.ListN.{length-map, get_or}
use Rattle.lines.specs.Texts.{Points, token_of}
use Rattle.lines.proofs.shapes.is_operator_expr.Goals as goal

pub any-requires-clause-callable : goal.any-requires-clause-callable
any-requires-clause-callable c =
    let a = c.args in
    serves_places 0 a.x.count a.x.count (cc) (omega arith) (λ x q k. search rules)
    (λ x b.
    let l : x < a.x.count = omega arith in
    let p : (w : ℕ) → w ≡ get_or (expr_words a.line.now a.x) x 0 → Points a.texts.now w = λ w e. expr-points c.requires.0 c.requires.1 l e in
    search (rules, p) depth 8)

pub returns-then-x-gt1 : goal.returns-then-x-gt1
returns-then-x-gt1 c =
    let a = c.args in
    operator_many _ (rw (length-map, expr-length c.requires.1) (search rules))
    (any_at_places is_operator (token_of a.texts.now) (expr_words a.line.now a.x) a.x.count _ _ _ c.any.ensures.ran (cc) (expr-length c.requires.1) (λ x b q k. search rules))

pub returns-else-x-gt1 : goal.returns-else-x-gt1
returns-else-x-gt1 c = le-ltb _ _ c.if-x-gt1.false ∙ operator-few _ (rw (length-map, expr-length c.requires.1) (search rules))
