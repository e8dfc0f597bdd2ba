-- `usefacts::parts::finish` meets its contract. Assumes nothing.
use Rattle.usefacts.proofs.Splitting.{finished_line}
use Rattle.usefacts.proofs.parts.finish.Goals as goal

pub returns-clause-whole : goal.returns-clause-whole
returns-clause-whole c = λ rules lines ways i f expr j new eb ea. finished_line rules lines ways i f expr j new c.joined.ensures eb ea
