-- What the iterator over a tape's commands gives, and what it is still to give. Assumes nothing.
use Rattle.std.specs.Prelude.{ℕ, ◌<◌, List, drop}
use Rattle.reference.specs.Listing.{token}
use Rattle.reference.specs.Tape as Tape
use Rattle.reference.specs.Tape.{TapeForm}
use Rattle.reference.specs.Options.{option_of}
use Rattle.tape.specs.Held.{Place, places_at}
use Rattle.tape.specs.declared.walk.Commands.{Commands}
use Rattle.tape.specs.declared.walk.Standing.{Standing}
use Rattle.tape.specs.declared.walk.Event.{Event}
use Rattle.tape.specs.declared.walk.Event.TheVariants.{Line, Marks, Token}

-- the command that an event is
abbrev pub event_shown : Event → Tape.Command
event_shown (Line address indent) = Tape.new_line (option_of address) indent
event_shown (Marks low high) = Tape.marked (record { lowest = low; highest = high })
event_shown (Token kind text) = Tape.new_token (token kind text.now)

-- the command that an item is, and its place
abbrev pub shown : Standing → Place
shown s = (s.at, event_shown s.event)

-- the commands that are still to come, and their places
abbrev pub left : {based : ℕ} → TapeForm → Commands based → List Place
left form s = places_at form s.at (drop s.at s.tape.now)

-- what of a command a byte holds: an indent, a kind
abbrev pub ByteFits : Tape.Command → Type 0
ByteFits (Tape.new_line address indent) = indent < 256
ByteFits (Tape.marked s) = Unit {0}
ByteFits (Tape.new_token t) = t.kind < 8
ByteFits Tape.end = Unit {0}
