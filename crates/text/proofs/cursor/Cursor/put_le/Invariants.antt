-- What the loop of `text::cursor::Cursor::put_le` keeps true: with what is left of the number put behind, the whole number is put.
use Rattle.std.proofs.Common.{◌-◌}
use Rattle.reference.specs.Tape.{to_le_bytes}
use Rattle.text.specs.Cursor.{Fits, Puts}
use Rattle.text.specs.declared.cursor.Cursor.{Cursor}
use Rattle.text.proofs.cursor.Cursor.put_le.Given as goal

abbrev pub invariant-loop : goal.invariant-loop
invariant-loop l =
    record {
      rest : (p : Cursor) → Puts l.self (to_le_bytes (l.n - l.counter) l.rest) p → Puts l.initial.self (to_le_bytes l.n l.v) p;
      room : Fits l.self (l.n - l.counter);
    }
