-- `flow::gathering::gather_forms` meets its contract. Assumes nothing.
use Rattle.flow.proofs.Tables.{filled_more}
use Rattle.flow.proofs.gathering.gather_forms.Goals as goal

pub loop-k-preserved : goal.loop-k-preserved
loop-k-preserved c =
    let l = c.loop-k in
    filled_more c.args.listing.now l.k l.forms c.form_at.result c.loop-k-test.true l.invariant c.form_at.ensures
