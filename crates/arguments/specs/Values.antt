-- Operands that stand for a value. Assumes nothing.
use Rattle.std.specs.Prelude.{ℕ, Bool, false, eqb, ltb, length, Option, Some, None, option_map, if◌then◌else◌}
use Rattle.std.proofs.Math.Option as math
use Rattle.reference.specs.Text.{Text}
use Rattle.words.specs.Numerals.{number_in, base_in}
use Rattle.arguments.specs.Tables.{verbs, editions, actions, meaning_in}
use Rattle.arguments.specs.declared.request.Kind.{Kind}
use Rattle.arguments.specs.declared.request.Kind.TheVariants as kind
use Rattle.arguments.specs.declared.request.Value.{Value}
use Rattle.arguments.specs.declared.request.Value.TheVariants as value

-- a name has 1 to 8 bytes
abbrev pub is_name : Text → Bool
is_name w = if eqb (length w) 0 then false else ltb (length w) 9

abbrev pub number : math.Option ℕ → Option Value
number math.none = None
number (math.some n) = Some (value.Number n)

-- what an operand of a kind stands for; files and names are no values
abbrev pub value_of : Kind → Text → Option Value
value_of kind.Edition w = option_map value.Edition (meaning_in editions w)
value_of kind.Action w = option_map value.Action (meaning_in actions w)
value_of kind.Verb w = option_map value.Verb (meaning_in verbs w)
value_of kind.Base w = number (base_in w)
value_of kind.Number w = number (number_in 10 w)
value_of kind.File w = None
value_of kind.Name w = None
