-- What the loop of `page::cells::put_cells` keeps true.
use Rattle.std.proofs.Common.{◌+◌, ◌*◌, ◌<◌, ◌≡◌, length}
use Rattle.text.specs.Cursor.{Fits}
use Rattle.page.specs.Cells.{cells}
use Rattle.tape.proofs.walk.Loops.{Coming}
use Rattle.page.proofs.cells.put_cells.Given as goal

abbrev pub invariant-loop-piece : goal.invariant-loop-piece
invariant-loop-piece l =
    record {
      size : l.piece-iterator.size ≡ 512;
      put : Coming l.initial.out (cells l.kind l.text) l.out (cells l.kind l.piece-iterator.rest.now);
      room : 0 < length l.piece-iterator.rest.now → Fits l.out (7 * length l.piece-iterator.rest.now + 35);
    }
