-- `caution_words::sets::count_cautioned` meets its contract. Assumes nothing.
use Rattle.std.proofs.Common.{rules}
use Rattle.caution_words.specs.Sets.{cautioned_below, count_cautioned}
use Rattle.caution_words.proofs.sets.count_cautioned.Goals as goal
use Rattle.caution_words.proofs.sets.count_cautioned.Goals.{then-set_at-ne0, else-set_at-ne0}

pub loop-q-init : goal.loop-q-init
unfolding cautioned_below
loop-q-init c = search rules

pub loop-q-preserved : goal.loop-q-preserved
unfolding cautioned_below
loop-q-preserved c = search rules

pub returns : goal.returns
unfolding count_cautioned
returns c = search rules
