-- What the loop of `tallies::fates::count_standing` keeps true: those so far, with those to come, are all; and there are no more than lines asked.
use Rattle.std.proofs.Common.{◌≡◌, ◌+◌, ◌≤◌, drop, map}
use Rattle.reference.specs.Options.{option_of}
use Rattle.tape.specs.Held.{held}
use Rattle.tallies.specs.Fates.{standing_from}
use Rattle.tallies.proofs.fates.count_standing.Given as goal

abbrev pub invariant-loop-k : goal.invariant-loop-k
invariant-loop-k l =
    record {
      told : l.n + standing_from (held l.raw) (held l.cleaned) l.k (map option_of (drop l.k l.places)) ≡ standing_from (held l.raw) (held l.cleaned) 0 (map option_of l.places);
      few : l.n ≤ l.k;
    }
