-- What the loop of `page::cells::put_line` keeps true.
use Rattle.std.proofs.Common.{◌*◌}
use Rattle.reference.specs.Tape.{old}
use Rattle.tape.specs.Held.{commands, tokens_of, unplaced}
use Rattle.tape.specs.Walk.{left}
use Rattle.tape.proofs.walk.Spending.{bytes_of}
use Rattle.text.specs.Cursor.{Fits}
use Rattle.page.specs.Cells.{line_cells}
use Rattle.tape.proofs.walk.Loops.{Coming}
use Rattle.page.proofs.cells.put_line.Given as goal

abbrev pub invariant-loop-c : goal.invariant-loop-c
invariant-loop-c l =
    record {
      put : Coming l.initial.line (line_cells (tokens_of (commands l.tape))) l.line (line_cells (tokens_of (unplaced (left old l.c-iterator))));
      room : Fits l.line (12 * bytes_of (unplaced (left old l.c-iterator)));
    }
