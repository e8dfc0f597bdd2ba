-- What the loop of `listing_text::forms::put_blanks` keeps true: what is left is still to be put.
use Prim.Native.Nat.{◌-◌}
use mathlib.Core.Path.{◌≡◌}
use Rattle.listing_text.specs.Room.{page, puts}
use Rattle.listing_text.specs.Forms.{blanks}
use Rattle.listing_text.proofs.forms.put_blanks.Given as goal

abbrev pub invariant-loop : goal.invariant-loop
invariant-loop l =
    record {
      rest : puts (page l.out) (blanks (l.indent - l.counter)) ≡ puts (page l.initial.out) (blanks l.indent);
      lent : l.out.out.ghost_name ≡ l.initial.out.out.ghost_name;
    }
