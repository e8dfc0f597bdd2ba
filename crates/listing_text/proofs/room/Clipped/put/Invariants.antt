-- What the loop of `put` keeps true: what is left is still to be put.
use mathlib.Core.Path.{◌≡◌}
use lib.ListN.{drop}
use Rattle.listing_text.specs.Room.{page, puts}
use Rattle.listing_text.proofs.room.Clipped.put.Given as goal

abbrev pub invariant-loop-b : goal.invariant-loop-b
invariant-loop-b l =
    record {
      rest : puts (page l.self) (drop l.b-index l.s) ≡ puts (page l.initial.self) l.s;
      lent : l.self.out.ghost_name ≡ l.initial.self.out.ghost_name;
    }
