-- Which question a word asks. Assumes nothing.
use Rattle.std.specs.Prelude.{◌≡◌, Bool, true, false}
use Rattle.std.specs.Prelude as std
use Rattle.reference.specs.Text.{Text, bytes, ◌≟◌}
use Rattle.test_leaves.specs.declared.asking.Question.{Question}
use Rattle.test_leaves.specs.declared.asking.Question.TheVariants as question

abbrev pub word_of : Question → Text
word_of question.Family = bytes "family"
word_of question.Number = bytes "number"
word_of question.Sum = bytes "sum"
word_of question.Difference = bytes "difference"
word_of question.Volatile = bytes "volatile"
word_of question.Constant = bytes "constant"

abbrev pub one_operand : Question → Bool
one_operand question.Family = true
one_operand question.Number = true
one_operand question.Sum = false
one_operand question.Difference = false
one_operand question.Volatile = false
one_operand question.Constant = true

-- a question is asked by its word, none by any other
abbrev pub Asks : Text → std.Option Question → Type 0
Asks word (std.Some q) = (word ≟ word_of q) ≡ true
Asks word std.None = (q : Question) → (word ≟ word_of q) ≡ false
