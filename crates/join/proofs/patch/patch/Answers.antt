-- `join::patch::patch` meets its contract. Assumes nothing.
use lib.ListN.{drop}
use Rattle.join.proofs.Sparing.{spare_as}
use Rattle.join.proofs.Bringing.{settled}
use Rattle.join.proofs.patch.patch.Goals as goal

pub returns-clause-acted : goal.returns-clause-acted
returns-clause-acted c =
    let a = c.args in
    let r = a.room.now in
    let e = c.patch_lines.ensures in
    settled r.area.now r.tokens.now e.patched c.requires.2 (spare_as c.requires.3 e.lent.area_length e.lent.tokens_length) (drop a.size.lines r.lines.now)
    c.copy.ensures c.copy-2.ensures
