-- `lines::fams::name_of` meets its contract. Assumes nothing.
use Rattle.lines.proofs.fams.name_of.Goals.{then-c-lt36, else-c-lt36+then-c-eq0, else-c-lt36+else-c-eq0}
use Rattle.lines.proofs.codes.Coding.{says, has_byte, decoded_row, decoded_whole, decoded_front}
use native.Mathlib.Omega.{arith}
use mathlib.Core.Path.{◌∙◌}
use Rattle.lines.proofs.fams.name_of.Goals as goal

pub overflow_sub-family : goal.overflow_sub-family
overflow_sub-family c = let a = c.args in let q = says _ _ a.w c.requires c.code.ensures c.in-Some.is in omega (arith, q.least)

pub without_last-requires : goal.without_last-requires
without_last-requires c = let a = c.args in let q = says _ _ a.w c.requires c.code.ensures c.in-Some.is in has_byte _ _ _ c.requires q

pub returns : goal.returns
returns c =
    let a = c.args in
    let q = says _ _ a.w c.requires c.code.ensures c.in-Some.is in
    let k = c.width_of.ensures in
    elim c.if-c-lt36.branch [
      | then-c-lt36 w ↦ rw w.family-is (decoded_row _ _ _ c.requires q k w.if-c-lt36.true)
      | else-c-lt36+then-c-eq0 w ↦ rw w.family-is (decoded_whole _ _ _ c.requires q k w.if-c-lt36.false w.if-c-eq0.true)
      | else-c-lt36+else-c-eq0 w ↦ decoded_front _ _ _ c.requires q k w.if-c-lt36.false w.if-c-eq0.false (w.family-is ∙ w.without_last.ensures)
    ]
