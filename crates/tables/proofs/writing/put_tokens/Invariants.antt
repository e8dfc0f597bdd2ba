-- What the loop of `tables::writing::put_tokens` keeps true: the commands of the first tokens are put, those of the others are to come.
use Rattle.lines.specs.Texts.{token_of}
use Rattle.tables.specs.Writing.{token_bytes}
use Rattle.tables.proofs.writing.Putting.{PutsFrom}
use Rattle.tables.proofs.writing.put_tokens.Given as goal

abbrev pub invariant-loop-w : goal.invariant-loop-w
invariant-loop-w l = PutsFrom (token_of l.texts) token_bytes l.ws l.w-index l.initial.out l.out
