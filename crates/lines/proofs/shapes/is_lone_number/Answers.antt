-- `lines::shapes::is_lone_number` meets its contract. Assumes nothing.
use mathlib.Core.Path.{sym, ◌∙◌}
use borrow.Author.Tests.{ne_eqb}
use Rattle.lines.specs.Words.{token_of}
use Rattle.lines.specs.Shapes.{expr_words}
use Rattle.lines.proofs.shapes.Tests.{is_test}
use Rattle.lines.proofs.shapes.Counted.{lone-not, lone_one}
use Rattle.lines.proofs.shapes.Right.{expr-length}
use Rattle.lines.proofs.shapes.is_lone_number.Goals as goal

pub returns-then-x-eq1 : goal.returns-then-x-eq1
returns-then-x-eq1 c = λ tape area. is_test (token_of tape area c.expr_word.result) 2 c.kind.ensures
    ∙ rw c.expr_word.ensures (lone_one tape area (expr_words c.args.line.now c.args.x) (expr-length c.requires ∙ c.if-x-eq1.true))

pub returns-else-x-eq1 : goal.returns-else-x-eq1
returns-else-x-eq1 c = λ tape area. ne_eqb _ _ c.if-x-eq1.false ∙ lone-not tape area (expr_words c.args.line.now c.args.x) (λ e. c.if-x-eq1.false (sym (expr-length c.requires) ∙ e))
