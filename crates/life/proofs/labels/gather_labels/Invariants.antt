-- What the loop of `life::labels::gather_labels` keeps true: the places among the first k lines stand in front. Assumes nothing.
use Rattle.std.proofs.Common.{◌≤◌}
use Rattle.life.specs.Labels.{Gathered}
use Rattle.life.proofs.Places.{found_in}
use Rattle.life.proofs.labels.gather_labels.Given as goal

abbrev pub invariant-loop-k : goal.invariant-loop-k
invariant-loop-k l = (l.n ≤ l.k) × Gathered (found_in l.listing.texts.tape.now l.listing.texts.area.now l.listing.tokens.now l.listing.lines.now l.k) l.initial.labels l.labels l.n
