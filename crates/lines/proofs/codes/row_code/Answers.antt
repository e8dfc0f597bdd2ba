-- `lines::codes::row_code` meets its contract. Assumes nothing.
use Rattle.lines.proofs.codes.Coding.{code_row, placed}
use mathlib.Core.Path.{refl, sym, ◌∙◌}
use mathlib.Core.Bool.{false≢true}
use borrow.Author.Tests.{eq-eqb}
use Rattle.lines.proofs.codes.row_code.Goals as goal

pub returns : goal.returns
returns c =
    let p = placed c.place_of.ensures c.in_ok-place_of.was in
    code_row _ c.requires (λ e. false≢true (sym c.if-is_empty.false ∙ c.is_empty.ensures ∙ eq-eqb _ 0 e)) p.0 p.1 refl
