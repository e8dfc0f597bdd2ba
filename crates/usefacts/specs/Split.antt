-- The cautions of a rewritten line in two parts: what the old line tells before the join is carried out, and what the new line tells after
-- it. Assumes nothing.
use Rattle.std.specs.Prelude.{ℕ, Bool, List, ◌++◌, map, ltb}
use Rattle.reference.specs.Control.{not, ◌and◌, ◌or◌}
use Rattle.reference.specs.Lists.{any, count}
use Rattle.reference.specs.Text.{bytes, has, starts_with}
use Rattle.reference.specs.Listing.{Token, is, Number, Listing}
use Rattle.reference.specs.Names.{Fam}
use Rattle.reference.specs.Rules.{Rules, volatile}
use Rattle.reference.specs.Join.{substitute, lone_number, text_before, text_after}
use Rattle.cautions.specs.Kinds.{overwritten, call_moved, read_moved, other_width, other_text, odd_number, ◌∪◌, ◌given◌, union}
use Rattle.cautions.specs.Values.{acts_beside, is_tame}
use Rattle.usefacts.specs.declared.parts.Before.{Before}
use Rattle.usefacts.specs.declared.parts.After.{After}
use Rattle.cautions.specs.Uses.{moves_call, moves_read, widths, changes_width, beside_number, is_apart, groups, places_of}

-- a Number that C may read otherwise
abbrev pub is_wild : Token → Bool
is_wild t = not (is_tame t)

abbrev pub is_negative : Token → Bool
is_negative t = is Number t and starts_with t.text (bytes "-")

-- ---- the parts of one use

module _ (rules : Rules) (f : Fam) (expr : List Token) (ts : List Token) (u : ℕ) where
  -- the kinds of a use that the old line tells
  unfoldable pub use_kinds : Listing → ℕ
  use_kinds passed =
      overwritten given (has (volatile rules) f.name and acts_beside ts u)
      ∪ call_moved given moves_call rules f expr ts u ∪ read_moved given moves_read rules f expr ts u passed
      ∪ other_width given changes_width rules f expr ts u
      ∪ other_text given not (is_apart (text_before ts u) (text_after ts u) and groups rules f expr ts u)

  -- numbers alone are computed where a register of less than 64 bits was
  unfoldable pub use_sums : Bool
  use_sums = lone_number expr and ltb (widths rules f expr ts u).1 64 and beside_number rules f expr ts u

-- ---- the parts of a line

unfoldable pub before_of : Rules → Fam → List Token → List Token → Listing → Before
before_of rules f expr old passed = record {
  kinds = union (map (λ u. use_kinds rules f expr old u passed) (places_of f.name 0 old));
  sums = any (use_sums rules f expr old) (places_of f.name 0 old);
  lone = lone_number expr;
  wild = any is_wild (old ++ expr);
  numbers = count (is Number) (substitute f.name expr old);
}

unfoldable pub after_of : List Token → After
after_of new = record { wild = any is_wild new; negative = any is_negative new; numbers = count (is Number) new }

-- the line's kinds, by both
unfoldable pub finished : Before → After → ℕ
finished b a =
    odd_number given ((b.lone or ltb a.numbers b.numbers) and (b.wild or a.wild)) ∪ b.kinds
    ∪ other_width given (b.sums and not (ltb a.numbers b.numbers and not (a.negative or a.wild)))
