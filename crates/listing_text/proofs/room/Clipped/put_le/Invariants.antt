-- What the loop of `listing_text::room::Clipped::put_le` keeps true: with what is left of the number put behind, the whole number is put.
use Rattle.std.proofs.Common.{◌-◌}
use Rattle.reference.specs.Tape.{to_le_bytes}
use Rattle.listing_text.specs.Room.{Puts}
use Rattle.listing_text.specs.declared.room.Clipped.{Clipped}
use Rattle.listing_text.proofs.room.Clipped.put_le.Given as goal

abbrev pub invariant-loop : goal.invariant-loop
invariant-loop l = (p : Clipped) → Puts l.self (to_le_bytes (l.n - l.counter) l.rest) p → Puts l.initial.self (to_le_bytes l.n l.v) p
