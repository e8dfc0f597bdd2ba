-- `filter::main` meets its contract. Assumes nothing.
use Rattle.filter.proofs.Responding.{within}
use borrow.Author.Rules.{rules}
use Rattle.filter.proofs.main.Goals as goal

pub slice_bounds-out-end : goal.slice_bounds-out-end
slice_bounds-out-end c = search (rules, within c.respond-m.ensures)

pub slice_bounds-write_all-end : goal.slice_bounds-write_all-end
slice_bounds-write_all-end c = search (rules, within c.respond-m.ensures)
