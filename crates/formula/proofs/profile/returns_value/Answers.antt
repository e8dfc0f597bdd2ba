-- `formula::profile::returns_value` meets its contract. Assumes nothing.
use Rattle.std.proofs.Common.{sym, ◌∙◌}
use Rattle.formula.proofs.Profiled.{value_empty, value_other, value_unread, value_by}
use Rattle.formula.proofs.profile.returns_value.Goals as goal
use Rattle.formula.proofs.profile.returns_value.Goals.{then-is_kw, else-is_kw}

pub returns-in-empty : goal.returns-in-empty
returns-in-empty c = value_empty _ _ _ c.in-empty.len_below

pub returns-then-is_read : goal.returns-then-is_read
returns-then-is_read c =
    elim c.if-is_kw.branch [
      | then-is_kw w ↦ value_by _ _ _ c.in-len1-up.len_at_least c.is_kw.ensures w.if-is_kw.true w.is_read.ensures (sym w.value-is ∙ c.if-is_read.true) c.puncts_apart.ensures
      | else-is_kw w ↦ let e = w.value-is in let f = w.if-is_kw.false in let g = c.if-is_read.true in cc
    ]

pub returns-else-is_read : goal.returns-else-is_read
returns-else-is_read c =
    rw c.if-is_read.false
    (elim c.if-is_kw.branch [
      | then-is_kw w ↦ value_unread _ _ _ c.in-len1-up.len_at_least c.is_kw.ensures w.if-is_kw.true w.is_read.ensures (sym w.value-is ∙ c.if-is_read.false)
      | else-is_kw w ↦ value_other _ _ _ c.in-len1-up.len_at_least c.is_kw.ensures w.if-is_kw.false
    ])
