-- What the code's families mean. Assumes nothing.
use Rattle.std.specs.Prelude.{ℕ, ◌≤◌, ◌≡◌, false, ltb}
use Rattle.std.proofs.Math.Option.{Option, none, some}
use Rattle.reference.specs.Control.{when◌then◌else◌}
use Rattle.reference.specs.Text.{Text}
use Rattle.reference.specs.Names as N
use Rattle.names.specs.Families.{row_name, is_row}
use Rattle.names.specs.Volatile.{number_of}
use Rattle.lines.specs.Words.{text_of, Points}
use Rattle.std.specs.Prelude as std
use Rattle.lines.specs.declared.fams.Named.{Named}

-- a family in one number: below 8 a row of the table of names, else the token word of its name
abbrev pub Fam : Type 0
Fam = ℕ

-- the family's name
unfoldable pub fam_text : Text → Text → Fam → Text
fam_text tape area f = when ltb f 8 then row_name f else text_of tape area f

-- a row of the table of names, or a name in the tape or the area that is no row's
pub record Known (tape area : Text) (f : Fam) : Type 0 where
  pub points : 8 ≤ f → Points tape area f
  pub no_row : 8 ≤ f → is_row (text_of tape area f) ≡ false

-- the number by which the lists of what a call overwrites name the family
unfoldable pub fam_number : Text → Text → Fam → Option ℕ
fam_number tape area f = when ltb f 8 then some f else number_of (text_of tape area f)

abbrev pub named : Text → Text → std.Option Named → Option N.Fam
named tape area (std.Some n) = some (record { name = fam_text tape area n.family; width = n.width; lowest = n.lowest })
named tape area std.None = none

-- the answer r says what the definition o says, of a family that is known
pub record Names (tape area : Text) (o : Option N.Fam) (r : std.Option Named) : Type 0 where
  pub is : named tape area r ≡ o
  pub known : (n : Named) → r ≡ std.Some n → Known tape area n.family
