-- What the code's values mean while it reads the exact form. Assumes nothing.
use Rattle.std.specs.Prelude.{ℕ, ◌≡◌, Bool, true, false, List, ◌∷◌, ◌++◌, length, Result, Ok, Err}
use Rattle.std.specs.Prelude as std
use Rattle.std.proofs.Math.Option.{Option, none, some}
use Rattle.reference.specs.Options.{option_of}
use Rattle.reference.specs.Tape.{Command, new_line, marked, write_command, to_le_bytes}
use Rattle.listing_text.specs.Room.{Page, page, puts}
use Rattle.listing_text.specs.Exact.{Read, nothing}
use Rattle.listing_text.specs.declared.room.Clipped.{Clipped}
use Rattle.listing_text.specs.declared.fields.Field.{Field}
use Rattle.listing_text.specs.declared.fields.Field.TheVariants as F
use Rattle.listing_text.specs.declared.fields.Malformed.{Malformed}

-- ---- fields

abbrev pub addressed : std.Option (std.Option ℕ) → Option (Option ℕ)
addressed (std.Some address) = some (option_of address)
addressed std.None = none

-- the bytes on the tape
abbrev pub bytes_in : Field → List ℕ
bytes_in (F.Line address indent) = write_command (new_line (option_of address) indent)
bytes_in (F.Marks low high) = write_command (marked (record { lowest = low; highest = high }))
bytes_in (F.Token tag text) = tag ∷ to_le_bytes 2 (length text.now) ++ text.now

abbrev pub read_in : std.Option Field → Read
read_in (std.Some q) = record { bytes = bytes_in q; right = true }
read_in std.None = nothing false

-- what a command alone reads as
unfoldable pub read_of : Option Command → Read
read_of none = nothing false
read_of (some c) = record { bytes = write_command c; right = true }

-- ---- where it is put

-- a page, and whether what was put there is right
pub record Lies : Type 0 where
  pub where_to : Page
  pub right : Bool

abbrev pub lies : Clipped → Result (Unit {0}) Malformed → Lies
lies p (Ok u) = record { where_to = page p; right = true }
lies p (Err e) = record { where_to = page p; right = false }

-- what is read put onto a page
unfoldable pub onto_page : Page → Read → Lies
onto_page g r = record { where_to = puts g r.bytes; right = r.right }

pub record Lays (g : Page) (r : Read) (l : Lies) : Type 0 where
  pub same : l ≡ onto_page g r

pub record PutsRead (p : Clipped) (r : Read) (p' : Clipped) (q : Result (Unit {0}) Malformed) : Type 0 where
  pub lays : Lays (page p) r (lies p' q)
  pub lent : p'.out.ghost_name ≡ p.out.ghost_name
