-- `raising::spreading::is_other` meets its contract. Assumes nothing.
use Rattle.raising.proofs.Putting.{other_unseen, other_self, other_noted}
use Rattle.raising.proofs.spreading.is_other.Goals as goal

pub returns-then-not-seen-k : goal.returns-then-not-seen-k
returns-then-not-seen-k c = other_unseen _ c.if-not-seen-k.true

pub returns-then-k-i : goal.returns-then-k-i
returns-then-k-i c = other_self c.if-not-seen-k.false c.args.k c.args.i _ c.if-k-i.true

pub returns : goal.returns
returns c = other_noted c.if-not-seen-k.false c.args.k c.args.i _ c.if-k-i.false c.is_noted.ensures
