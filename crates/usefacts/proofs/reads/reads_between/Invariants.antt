-- What the loop of `usefacts::reads::reads_between` keeps true: the answer is that of the tokens from k on. Assumes nothing.
use Rattle.std.proofs.Common.{◌≡◌, drop}
use Rattle.lines.specs.Texts.{tokens_of}
use Rattle.usefacts.specs.Reads.{reads_between}
use Rattle.usefacts.proofs.reads.reads_between.Given as goal

abbrev pub invariant-loop-k : goal.invariant-loop-k
invariant-loop-k l =
    reads_between l.last (tokens_of l.texts (drop l.k l.ws)) l.after ≡ reads_between l.before (tokens_of l.texts l.ws) l.after
