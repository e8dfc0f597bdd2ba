-- `words::splitting::word_end` meets its contract. Assumes nothing.
use Rattle.std.proofs.Common.{rules}
use Rattle.std.proofs.lemmas.List.{take_rest}
use Rattle.words.proofs.FirstWord.{ends}
use Rattle.words.proofs.splitting.word_end.Goals as goal

pub overflow_add-result : goal.overflow_add-result
overflow_add-result c = let e = ends c.args.words.now c.args.at c.requires in rw (c.before_zero.ensures, take_rest) (search rules)

pub returns : goal.returns
returns c = rw (c.before_zero.ensures, take_rest) (ends c.args.words.now c.args.at c.requires)
