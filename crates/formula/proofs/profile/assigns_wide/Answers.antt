-- `formula::profile::assigns_wide` meets its contract. Assumes nothing.
use Rattle.std.proofs.Common.{sym, ◌∙◌}
use Rattle.formula.proofs.Profiled.{wide-empty, wide-other, wide-unread, wide_by}
use Rattle.formula.proofs.profile.assigns_wide.Goals as goal
use Rattle.formula.proofs.profile.assigns_wide.Goals.{then-is_wide, else-is_wide}

pub returns-in-empty : goal.returns-in-empty
returns-in-empty c = wide-empty _ _ _ c.in-empty.len_below

pub returns-then-is_read : goal.returns-then-is_read
returns-then-is_read c =
    elim c.if-is_wide.branch [
      | then-is_wide w ↦ wide_by _ _ _ c.in-len1-up.len_at_least c.is_wide.ensures w.if-is_wide.true w.is_read.ensures (sym w.value-is ∙ c.if-is_read.true) c.puncts_apart.ensures
      | else-is_wide w ↦ let e = w.value-is in let f = w.if-is_wide.false in let g = c.if-is_read.true in cc
    ]

pub returns-else-is_read : goal.returns-else-is_read
returns-else-is_read c =
    rw c.if-is_read.false
    (elim c.if-is_wide.branch [
      | then-is_wide w ↦ wide-unread _ _ _ c.in-len1-up.len_at_least c.is_wide.ensures w.if-is_wide.true w.is_read.ensures (sym w.value-is ∙ c.if-is_read.false)
      | else-is_wide w ↦ wide-other _ _ _ c.in-len1-up.len_at_least c.is_wide.ensures w.if-is_wide.false
    ])
