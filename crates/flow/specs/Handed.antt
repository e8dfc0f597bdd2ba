-- Whether a line hands a value over, in the parts that the code asks. Assumes nothing.
use Rattle.std.specs.Prelude.{ℕ, Bool, List, eqb}
use Rattle.reference.specs.Control.{not, ◌and◌, ◌or◌}
use Rattle.reference.specs.Lists.{any, is_some}
use Rattle.reference.specs.Text.{Text, bytes, ◌≟◌}
use Rattle.reference.specs.Listing.{Token, is, Punct, Listing, ◌at◌}
use Rattle.reference.specs.Rules.{Rules}
use Rattle.reference.specs.Shapes.{call_in}
use Rattle.cautions.specs.Texts.{holds}
use Rattle.cautions.specs.Joins.{is_void}

unfoldable pub is_pair : Token → Bool
is_pair t = is Punct t and holds (bytes "()") t.text

-- `takes_unspelt` of the definitions, for a register in which a call may find an argument
unfoldable pub spells_none : Rules → List Token → Bool
spells_none rules ts = is_some (call_in ts) and (eqb rules.convention 0 or any is_pair ts)

unfoldable pub unspelt_at : Rules → Listing → ℕ → Bool
unspelt_at rules lines k = spells_none rules (lines at k).tokens

-- the first half of `for_caller`
unfoldable pub is_result : Listing → Text → Bool
is_result lines fam = (fam ≟ bytes "rax") and not (is_void lines)
