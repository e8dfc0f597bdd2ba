-- `lines::fams::spelled` meets its contract. Assumes nothing.
use borrow.Author.Rules.{rules}
use mathlib.Core.Path.{ap, ◌∙◌}
use Rattle.std.specs.Prelude.{Some}
use Rattle.lines.proofs.fams.Families.{families, named-front}
use Rattle.lines.proofs.fams.spelled.Goals as goal

pub first_bytes-requires : goal.first_bytes-requires
first_bytes-requires c = search (rules, families)

pub returns-in-Row : goal.returns-in-Row
returns-in-Row c = search (rules, families)

pub returns-in-Front : goal.returns-in-Front
returns-in-Front c = named-front _ _ c.args.w c.text.ensures c.family.ensures c.requires (c.in_ok-row.was ∙ ap Some c.in-Front.is) c.first_bytes.ensures
