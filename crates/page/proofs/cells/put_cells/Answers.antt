-- `page::cells::put_cells` meets its contract. Assumes nothing.
use Rattle.std.proofs.Common.{◌≡◌, ℕ, List, ◌+◌, length, min, ap, ◌∙◌, arith, length-append}
use Rattle.text.proofs.Cursors.{room_left}
use Rattle.page.specs.Cells.{cell, cells}
use Rattle.tape.proofs.walk.Loops.{coming_begins, coming_on, coming_ends}
use Rattle.page.proofs.Rowing.{cell-length, cells-length, next_cell, no_cells}
use Rattle.page.proofs.cells.put_cells.Goals as goal

pub loop-piece-init : goal.loop-piece-init
loop-piece-init c =
    let e : c.into_iter-piece-iterator.result.rest.now ≡ c.args.text.now =
    rw c.into_iter-piece-iterator.ensures.into_iter_gives c.chunks-piece-items.ensures.rest in
    record {
      size = rw c.into_iter-piece-iterator.ensures.into_iter_gives c.chunks-piece-items.ensures.size;
      put = rw e (coming_begins (cells c.args.kind c.args.text.now) (omega (arith, c.requires, cells-length c.args.kind c.args.text.now)));
      room = λ h. rw e c.requires;
    }

pub loop-piece-preserved : goal.loop-piece-preserved
loop-piece-preserved c =
    let s = c.in-Some.ensures.steps.1 in
    let x = c.in-Some.piece.now in
    let rest = c.loop-piece.piece-iterator.rest.now in
    let rest₁ = c.next.new.self.rest.now in
    let long : length x ≡ min 512 (length rest) = rw c.loop-piece.invariant.size at s.1 in
    let more : length rest ≡ length x + length rest₁ = ap (λ (r : List ℕ). length r) s.0 ∙ length-append x rest₁ in
    record {
      size = c.in-Some.ensures.steps.0 ∙ c.loop-piece.invariant.size;
      put = coming_on c.loop-piece.invariant.put (cell c.args.kind x) (next_cell c.args.kind rest x rest₁ s.0 long s.2) c.put_cell.ensures;
      room = λ h. room_left c.put_cell.ensures _ (omega (arith, c.loop-piece.invariant.room s.2, cell-length c.args.kind x));
    }

pub returns : goal.returns
returns c = coming_ends c.loop-piece.invariant.put (no_cells c.args.kind c.loop-piece.piece-iterator.rest.now (omega (arith, c.in-None.ensures.steps)))
