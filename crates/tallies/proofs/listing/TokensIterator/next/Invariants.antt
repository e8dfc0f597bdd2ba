-- What the loop of `tallies::listing::Tokens::next` keeps true: no token stood so far.
use Rattle.std.proofs.Common.{◌≡◌, length}
use Rattle.reference.specs.Tape.{old}
use Rattle.tape.specs.Walk.{left}
use Rattle.tallies.specs.Lines.{tokens_left}
use Rattle.tallies.proofs.listing.TokensIterator.next.Given as goal

abbrev pub invariant-loop-c : goal.invariant-loop-c
invariant-loop-c l = tokens_left l.self ≡ tokens_left l.initial.self

abbrev pub decreases-loop-c : goal.decreases-loop-c
decreases-loop-c l = length (left old l.self.commands)
