-- What a line of the vectors asks, what its answer is by the reference's definitions, and which answer the line has. A line is a question,
-- its one operand or two, and the Rust's answer (for `constant` the oracle's); tests/leaves says how it is got. Assumes nothing.
use Rattle.std.specs.Prelude.{ℕ, Bool, false, [], ◌++◌, ℤ, ◌+ℤ◌, ◌-ℤ◌}
use Rattle.std.proofs.Math.Option.{Option, none, some}
use Rattle.reference.specs.Control.{not, ◌or◌, when◌then◌else◌, let_some◌else◌then◌}
use Rattle.reference.specs.Lists.{count}
use Rattle.reference.specs.Text.{Text, bytes, ◌≟◌, has}
use Rattle.reference.specs.Listing.{token, Number, Punct}
use Rattle.reference.specs.Names.{family, volatile_of}
use Rattle.reference.specs.Numbers.{parse_c_number, read_number, wrap, folded, show}
use Rattle.printing.specs.Decimals.{decimal}
use Rattle.test_leaves.specs.Fields.{behind_words, word, lines}

-- ---- the answers

-- a family and a width
unfoldable pub register : Text → ℕ → Text
register name width = name ++ bytes " " ++ decimal width

unfoldable pub family_answer : Text → Text
family_answer name = let_some (family name) else bytes "none" then λ f. register f.name f.width

-- a value as folding prints it
unfoldable pub value : Option ℤ → Text
value o = let_some o else bytes "unread" then show

-- a + b or a - b, wrapped to 64 bits; none where one is unread
unfoldable pub combined : Bool → Text → Text → Option ℤ
combined minus a b =
    let_some (parse_c_number a) else none then λ x.
    let_some (parse_c_number b) else none then λ y.
    some (wrap (when minus then x -ℤ y else x +ℤ y))

-- what a fold makes of `a op b` alone on a line, by edition 0
unfoldable pub fold_answer : Text → Text → Text → Text
fold_answer op a b =
    let_some (folded 0 none (token Number a) (token Punct op) (token Number b) []) else bytes "unread" then λ t. t.text

-- document 01's conventions; any text but `0` and `1` stands for 2
unfoldable pub convention : Text → ℕ
convention s = when s ≟ bytes "0" then 0 else when s ≟ bytes "1" then 1 else 2

-- whether a call overwrites the register
unfoldable pub overwrites : ℕ → Text → Bool
overwrites c name = let_some (family name) else false then λ f. has (volatile_of c) f.name

unfoldable pub yes_no : Bool → Text
yes_no b = when b then bytes "yes" else bytes "no"

-- the answer to a question with the operands a and b; a question with one operand looks at a alone
unfoldable pub answer_to : Text → Text → Text → Text
answer_to question a b =
    when question ≟ bytes "family" then family_answer a
    else when question ≟ bytes "number" then value (parse_c_number a)
    else when question ≟ bytes "sum" then fold_answer (bytes " + ") a b
    else when question ≟ bytes "difference" then fold_answer (bytes " - ") a b
    else when question ≟ bytes "volatile" then yes_no (overwrites (convention a) b)
    else when question ≟ bytes "constant" then value (read_number 1 a)
    else bytes "no such question"

unfoldable pub answer : Text → Text
answer line = answer_to (word 0 line) (word 1 line) (word 2 line)

-- ---- the answer on the line: all that stands behind the question and its operands

unfoldable pub expected : Text → Text
expected line =
    when (word 0 line ≟ bytes "family") or (word 0 line ≟ bytes "number") or (word 0 line ≟ bytes "constant") then behind_words 2 line
    else behind_words 3 line

-- how many lines have another answer than the definitions'
unfoldable pub differing : Text → ℕ
differing input = count (λ line. not (expected line ≟ answer line)) (lines input)
