-- `usefacts::rest::rest_of` meets its contract. Assumes nothing.
use borrow.Author.Rules.{rules}
use Rattle.usefacts.proofs.Resting.{rest_read, rest_written}
use Rattle.usefacts.proofs.rest.rest_of.Goals as goal

pub returns-then-is_only_written : goal.returns-then-is_only_written
returns-then-is_only_written c = rest_written _ _ _ c.requires c.kept-n.ensures.is c.without_use-r.result c.without_use-r.ensures c.is_only_written.ensures (search rules) c.without_first.ensures

pub returns : goal.returns
returns c = rest_read _ _ _ c.requires c.kept-n.ensures.is c.without_use-r.result c.without_use-r.ensures c.is_only_written.ensures (search rules)
