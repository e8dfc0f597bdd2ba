-- `page::cells::put_line` meets its contract. Assumes nothing.
use Rattle.std.proofs.Common.{◌≡◌, ◌∷◌, [], length, ap, ◌∙◌, arith}
use borrow.Author.Rules.{rules}
use Rattle.reference.specs.Listing.{token}
use Rattle.reference.specs.Tape.{old, new_token}
use Rattle.text.proofs.Cursors.{room_left, at_front}
use Rattle.tape.specs.Held.{commands, places, tokens_of, unplaced}
use Rattle.tape.specs.Walk.{event_shown, left}
use Rattle.tape.proofs.walk.Spending.{bytes_of, few}
use Rattle.page.specs.Cells.{cells, line_cells}
use Rattle.tape.proofs.walk.Loops.{coming_begins, coming_on, coming_ends}
use Rattle.page.proofs.Rowing.{cells-length, line-length, no_tokens, next_token}
use Rattle.page.proofs.cells.put_line.Goals as goal
use Rattle.page.proofs.cells.put_line.Goals.{in-None, in-Some+in-Line}

pub loop-c-init : goal.loop-c-init
loop-c-init c =
    let a = c.args in
    let e : left old c.into_iter-c-iterator.result ≡ places a.tape.now = rw c.into_iter-c-iterator.ensures.into_iter_gives c.new-c-items.ensures in
    let room = few a.tape.now in
    record {
      put = rw e (coming_begins (line_cells (tokens_of (commands a.tape.now))) (omega (arith, line-length (commands a.tape.now), ap length c.new-line.ensures.same_bytes)));
      room = rw e (omega (arith, ap length c.new-line.ensures.same_bytes));
    }

pub loop-c-preserved : goal.loop-c-preserved
loop-c-preserved c =
    let t = token c.in-Token.kind c.in-Token.text.now in
    let more = unplaced (left old c.next.new.self) in
    let k : unplaced (left old c.loop-c.c-iterator) ≡ new_token t ∷ more = ap unplaced c.in-Some.ensures.steps ∙ ap (λ e. event_shown e ∷ more) c.in-Token.is in
    record {
      put = coming_on c.loop-c.invariant.put (cells t.kind t.text) (ap (λ cs. line_cells (tokens_of cs)) k ∙ next_token t (tokens_of more)) c.put_cells.ensures;
      room = room_left c.put_cells.ensures _ (omega (arith, c.loop-c.invariant.room, ap bytes_of k, cells-length t.kind t.text));
    }

pub returns : goal.returns
returns c =
    let none : line_cells (tokens_of (unplaced (left old c.loop-c.c-iterator))) ≡ [] =
    elim c.match-next.branch [
      | in-None w ↦ ap (λ ps. line_cells (tokens_of (unplaced ps))) w.in-None.ensures.steps.0 ∙ no_tokens
      | in-Some+in-Line w ↦ ap (λ ps. line_cells (tokens_of (unplaced ps))) w.in-Some.ensures.steps
          ∙ ap (λ e. line_cells (tokens_of (event_shown e ∷ unplaced (left old c.next.new.self)))) w.in-Line.is ∙ no_tokens
    ] in
    at_front (coming_ends c.loop-c.invariant.put none) (search rules) (search rules) (search rules)
