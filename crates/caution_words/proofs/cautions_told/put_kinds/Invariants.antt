-- What the loop of `caution_words::cautions_told::put_kinds` keeps true.
use Rattle.std.proofs.Common.{take}
use Rattle.text.specs.Cursor.{Puts}
use Rattle.caution_words.specs.Told.{every, kind_line, told_by}
use Rattle.caution_words.proofs.cautions_told.put_kinds.Given as goal

abbrev pub invariant-loop-kind : goal.invariant-loop-kind
invariant-loop-kind l = Puts l.initial.lines (told_by kind_line l.set (take l.kind-index every)) l.lines
