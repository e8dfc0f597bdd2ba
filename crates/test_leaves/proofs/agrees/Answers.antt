-- `test_leaves::agrees` meets its contract. Assumes nothing.
use mathlib.Core.Path.{sym, ◌∙◌}
use lib.Seq.{length-take-le}
use Rattle.test_leaves.proofs.Answering.{front_fits, compares}
use Rattle.test_leaves.proofs.agrees.Goals as goal

pub slice_bounds-same-end : goal.slice_bounds-same-end
slice_bounds-same-end c = front_fits c.put_answer-n.ensures

pub slice_bounds-same-end-2 : goal.slice_bounds-same-end-2
slice_bounds-same-end-2 c =
    sym (length-take-le _ _ (front_fits c.put_answer-n.ensures))

pub returns-then-same : goal.returns-then-same
returns-then-same c =
    sym c.if-same.true ∙ compares c.put_answer-n.ensures c.expected.ensures c.same.ensures

pub slice_bounds-print-end-2 : goal.slice_bounds-print-end-2
slice_bounds-print-end-2 c =
    front_fits c.put_answer-n.ensures

pub returns : goal.returns
returns c =
    sym c.if-same.false ∙ compares c.put_answer-n.ensures c.expected.ensures c.same.ensures
