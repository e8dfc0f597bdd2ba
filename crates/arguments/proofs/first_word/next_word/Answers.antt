-- `arguments::first_word::next_word` meets its contract. Assumes nothing.
use Rattle.std.proofs.Common.{arith}
use Rattle.words.proofs.FirstWord.{no_word}
use Rattle.arguments.proofs.Turns.{word_before, word_last}
use Rattle.arguments.proofs.first_word.next_word.Goals as goal

pub returns-then-is_empty : goal.returns-then-is_empty
returns-then-is_empty c = no_word c.args.words.now 0 (grind arith)

pub returns-then-end-words : goal.returns-then-end-words
returns-then-end-words c = word_before _ (grind arith) c.word_end-end.ensures c.if-end-words.true

pub returns-else-end-words : goal.returns-else-end-words
returns-else-end-words c = word_last _ (grind arith) c.word_end-end.ensures c.if-end-words.false
