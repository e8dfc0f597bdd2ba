-- What the loop of `listing_text::reading::put_tape` keeps true: the lines that are left are still to be put.
use Prim.Native.Nat.{◌+◌, ◌≤◌}
use mathlib.Core.Path.{◌≡◌}
use lib.ListN.{length}
use Rattle.listing_text.specs.Room.{page, empty}
use Rattle.listing_text.specs.Exact.{ended, lines_read, tape_of}
use Rattle.listing_text.proofs.Fielding.{ending}
use Rattle.listing_text.proofs.reading.put_tape.Given as goal

abbrev pub invariant-loop-n : goal.invariant-loop-n
invariant-loop-n l =
    record {
      told : ending (page l.page) (lines_read l.n-iterator.a.start (ended 10 l.n-iterator.b.rest.now)) ≡ ending (empty l.fn.out) (tape_of l.fn.text);
      few : l.n-iterator.a.start + length l.n-iterator.b.rest.now ≤ length l.fn.text;
      lent : l.page.out.ghost_name ≡ l.initial.page.out.ghost_name;
    }
