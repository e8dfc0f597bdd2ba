-- The settings of one call. From an attempt upwards the definitions take them in this record; the change requests of document 02 add fields
-- to it. Assumes nothing.
use Rattle.std.specs.Prelude.{ℕ, Bool, List}
use Rattle.reference.specs.Text.{Text}
use Rattle.reference.specs.Names.{volatile_of}

pub record Rules : Type 0 where
  pub convention : ℕ
  -- M-112: whether to go "on until a round changes nothing", in place of at most three rounds
  pub settle : Bool
  -- M-100: how numbers are read: 0 as the Rust does, 1 by ISO/IEC 9899:2024
  pub edition : ℕ
  -- M-104: whether a use below 32 bits must be the assigned part
  pub parts : Bool
  -- M-106: whether the listing is asked to be a straight piece; "every joined expression of more than one token gets brackets" then
  pub profile : Bool

-- the families that a call overwrites
abbrev pub volatile : Rules → List Text
volatile rules = volatile_of rules.convention
