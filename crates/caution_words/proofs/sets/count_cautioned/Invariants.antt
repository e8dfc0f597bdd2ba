-- What the loop of `caution_words::sets::count_cautioned` keeps true.
use Rattle.std.proofs.Common.{◌≡◌, ◌≤◌}
use Rattle.caution_words.specs.Sets.{cautioned_below}
use Rattle.caution_words.proofs.sets.count_cautioned.Given as goal

abbrev pub invariant-loop-q : goal.invariant-loop-q
invariant-loop-q l =
    record {
      counted : l.n ≡ cautioned_below l.q l.sets;
      few : l.n ≤ l.q;
    }
