-- What the loop of `raising::renewing::uses_kinds` keeps true: the kinds so far, and then those from line q on, are all. Assumes nothing.
use Rattle.std.proofs.Common.{◌≡◌, ◌+◌, drop}
use Rattle.cautions.specs.Kinds.{◌∪◌}
use Rattle.lines.specs.Texts.{bare_listing}
use Rattle.raising.specs.Noting.{kinds_from}
use Rattle.raising.proofs.renewing.uses_kinds.Given as goal

abbrev pub invariant-loop-q : goal.invariant-loop-q
invariant-loop-q l =
    l.kinds ∪ kinds_from (drop (l.q + 1) l.parts) (drop l.q (bare_listing l.listing)) ≡ kinds_from (drop (l.i + 1) l.parts) (drop l.i (bare_listing l.listing))
