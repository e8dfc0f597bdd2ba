-- What the loop of `listing_text::showing::put_listing` keeps true: what is left is still to be told.
use Prim.Native.Nat.{◌-◌}
use mathlib.Core.Path.{◌≡◌}
use lib.ListN.{length}
use Rattle.listing_text.specs.Room.{page, empty}
use Rattle.listing_text.specs.Showing.{shown_from, shown}
use Rattle.listing_text.proofs.Telling.{tells}
use Rattle.listing_text.proofs.showing.put_listing.Given as goal

abbrev pub invariant-loop : goal.invariant-loop
invariant-loop l =
    record {
      rest : tells (page l.page) (shown_from l.exact (length l.tape - l.counter) l.tape l.at l.fresh) ≡ tells (empty l.fn.out) (shown l.exact l.tape);
      lent : l.page.out.ghost_name ≡ l.initial.page.out.ghost_name;
    }
