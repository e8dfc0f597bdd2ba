-- What the code that asks 12 and 13 answers. Assumes nothing.
use Rattle.std.specs.Prelude.{ℕ, Bool, true, false, List, length}
use Rattle.std.proofs.Math.Option.{Option}
use Rattle.reference.specs.Text.{Text}
use Rattle.reference.specs.Listing.{Token}
use Rattle.books.specs.Tables.{words}
use Rattle.editions.specs.Conversion.{earns_12, earns_13, of_command, first_place}

-- the new keywords, a few at a time
abbrev pub keywords_1 : List Text
keywords_1 = words "alignas alignof bool constexpr"

abbrev pub keywords_2 : List Text
keywords_2 = words "false nullptr static_assert thread_local"

abbrev pub keywords_3 : List Text
keywords_3 = words "true typeof typeof_unqual"

-- going up, or down
abbrev pub earns : Bool → Token → Bool
earns true = earns_12
earns false = earns_13

-- the place of the leftmost command that earns its refusal
abbrev pub leftmost : Bool → List ℕ → Option ℕ
leftmost up tape = first_place (of_command (earns up)) (length tape) tape 0
