-- `rounds::run::note_facts` meets its contract. Assumes nothing.
use Rattle.rounds.proofs.Facts.{same_noted}
use Rattle.rounds.proofs.run.note_facts.Goals as goal

pub returns : goal.returns
returns c = same_noted c.requires c.gather_facts.ensures
