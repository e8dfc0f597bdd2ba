-- `usefacts::usekinds::is_other_text` meets its contract. Assumes nothing.
use borrow.Author.Rules.{rules}
use Rattle.usefacts.proofs.Raising.{text_groups}
use Rattle.usefacts.proofs.usekinds.is_other_text.Goals as goal

pub returns : goal.returns
returns c = text_groups _ c.is_apart.ensures (search rules) c.groups.ensures
