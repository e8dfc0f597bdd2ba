-- What the loop of `tallies::fates::same_tokens` keeps true: the lines have the same tokens exactly if those to come are the same.
use Rattle.std.proofs.Common.{◌≡◌}
use Rattle.tallies.specs.Fates.{same_tokens}
use Rattle.tallies.specs.Lines.{line_shown, tokens_left}
use Rattle.tallies.proofs.fates.same_tokens.Given as goal

abbrev pub invariant-loop-t : goal.invariant-loop-t
invariant-loop-t l = same_tokens (tokens_left l.t-iterator) (tokens_left l.others) ≡ same_tokens (line_shown l.fn.one).tokens (line_shown l.fn.other).tokens
