-- What the loop of `page::signs::put_cautions` keeps true.
use Rattle.std.proofs.Common.{take}
use Rattle.text.specs.Cursor.{Puts}
use Rattle.caution_words.specs.Told.{every, told_by}
use Rattle.page.specs.Signs.{kind_cell}
use Rattle.page.proofs.signs.put_cautions.Given as goal

abbrev pub invariant-loop-kind : goal.invariant-loop-kind
invariant-loop-kind l = Puts l.initial.words (told_by kind_cell l.set (take l.kind-index every)) l.words
