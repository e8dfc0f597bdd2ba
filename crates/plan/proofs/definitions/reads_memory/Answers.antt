-- `plan::definitions::reads_memory` meets its contract. Assumes nothing.
use Rattle.std.proofs.Common.{rules, arith, ◌∙◌, length, get_or}
use Rattle.std.proofs.lemmas.Iterator.{YieldsList-from_range}
use Rattle.std.proofs.lemmas.Iterator.Search.{any_from_yields_List}
use Rattle.reference.specs.Join.{reads_here}
use Rattle.lines.specs.Shapes.{expr_words}
use Rattle.lines.specs.Texts.{token_of, tokens_of}
use Rattle.lines.proofs.shapes.Right.{expr-length}
use Rattle.plan.specs.Definitions.{before_at}
use Rattle.plan.proofs.Defining.{reads_any}
use Rattle.plan.proofs.definitions.reads_memory.Goals as goal

pub returns : goal.returns
returns c =
    let a = c.args in
    let side = expr_words a.line.now a.x in
    any_from_yields_List (λ k. reads_here (before_at (tokens_of a.texts.now side) k) (token_of a.texts.now (get_or side k 0))) _ _ _ c.any.ensures.ran
    (YieldsList-from_range 0 a.x.count (length side) (cc) (omega (arith, expr-length c.requires.1))) (λ x b q k. search rules)
    ∙ reads_any _ _ side
