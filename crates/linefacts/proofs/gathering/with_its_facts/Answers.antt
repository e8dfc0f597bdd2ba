-- `linefacts::gathering::with_its_facts` meets its contract. Assumes nothing.
use borrow.Author.Rules.{rules}
use Rattle.linefacts.proofs.Making.{noted_with}
use Rattle.linefacts.proofs.gathering.with_its_facts.Goals as goal

pub returns : goal.returns
returns c = search (rules, noted_with)
