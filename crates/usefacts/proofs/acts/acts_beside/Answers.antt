-- `usefacts::acts::acts_beside` meets its contract. Assumes nothing.
use borrow.Author.Rules.{rules}
use Rattle.lines.proofs.shapes.Places.{found_is}
use Rattle.usefacts.proofs.Calling.{called_inside, acts_other}
use Rattle.usefacts.proofs.acts.acts_beside.Goals as goal

pub is_only_call-requires : goal.is_only_call-requires
is_only_call-requires c =
    (c.requires.0, called_inside _ _ _ _ (found_is c.call_at.ensures (search rules)), found_is c.call_at.ensures (search rules))

pub returns-then-not-is_only_call : goal.returns-then-not-is_only_call
returns-then-not-is_only_call c = acts_other _ _ c.call_at.ensures c.in-Some.is c.is_only_call.ensures (search rules)
