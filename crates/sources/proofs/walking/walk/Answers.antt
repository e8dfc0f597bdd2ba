-- `sources::walking::walk` meets its contract: the flags so far are those of the marks so far. Assumes nothing.
use Rattle.std.proofs.Common.{◌≡◌}
use Rattle.reference.specs.Tape.{old}
use Rattle.tape.specs.Held.{places}
use Rattle.tape.specs.Walk.{left}
use Rattle.sources.proofs.Walked.{walk_begins, walk_ends, walk-fits, walk-on}
use Rattle.sources.proofs.walking.walk.Goals as goal

pub loop-c-init : goal.loop-c-init
loop-c-init c =
    let e : left old c.into_iter-c-iterator.result ≡ places c.args.tape.now = rw c.into_iter-c-iterator.ensures.into_iter_gives c.new-c-items.ensures in
    record { walking = rw e (walk_begins c.args.tape.now c.args.flags.now c.requires) }

pub flag-n-requires : goal.flag-n-requires
flag-n-requires c = walk-fits (rw c.in-Some.ensures.steps at c.loop-c.invariant.walking)

pub loop-c-preserved : goal.loop-c-preserved
loop-c-preserved c = record { walking = walk-on (rw c.in-Some.ensures.steps at c.loop-c.invariant.walking) c.flag-n.ensures }

pub returns : goal.returns
returns c = walk_ends (rw c.in-None.ensures.steps.0 at c.loop-c.invariant.walking)
