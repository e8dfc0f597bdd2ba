-- What the evaluators answer, in pairs of numbers modulo 2^64: a multiplier, and a constant. Assumes nothing.
use Rattle.std.specs.Prelude.{◌≡◌, ℕ, ◌<◌, Bool, true, false, List, [], length, ℤ, slice_index_or}
use Rattle.std.specs.Prelude as std
use Rattle.std.proofs.Math.Option.{Option, none, some}
use Rattle.reference.specs.Text.{Text}
use Rattle.reference.specs.Listing.{Token, token}
use Rattle.reference.specs.Evaluators.{Arithmetic, plus, minus, wide, number_of, Lexeme, lexemes, fuel_for, expression, term, evaluate}
use Rattle.lines.specs.Words.{tokens_of}
use Rattle.formula.specs.Places.{left, InLine}
use Rattle.formula.specs.declared.places.Sign.{Sign}
use Rattle.formula.specs.declared.places.Sign.TheVariants.{Plus, Minus}
use Rattle.formula.specs.declared.evaluators.Pair as held
use Rattle.formula.specs.declared.evaluators.Value.{Value}

-- a value, or none
abbrev pub Worth : Type 0
Worth = std.Option Value

abbrev pub Pair : Type 0
Pair = ℕ × ℕ

-- the two numbers of a pair of the code
abbrev pub numbers_of : held.Pair → Pair
numbers_of p = (p.multiplier, p.constant)

-- pairs are added and taken part by part; `number` says which pair a number is
abbrev pub pairs : (ℤ → Pair) → Arithmetic Pair
pairs number =
    record {
      sum = λ v w. (plus v.0 w.0, plus v.1 w.1);
      difference = λ v w. (minus v.0 w.0, minus v.1 w.1);
      number = number;
    }

-- a number of the sum so far, and the same number of the term that joins it
abbrev pub joined : std.Option Sign → ℕ → ℕ → ℕ
joined std.None v w = w
joined (std.Some Plus) v w = plus v w
joined (std.Some Minus) v w = minus v w

abbrev pub zero_pair : held.Pair
zero_pair = record { multiplier = 0; constant = 0 }

-- the pair of the token k; past the end, 0 and 0
abbrev pub pair_at : List held.Pair → ℕ → Pair
pair_at values k = numbers_of (slice_index_or values k zero_pair)

abbrev pub no_token : Token
no_token = token 0 []

-- the table has the pair of each register and of each number of a line
pub record Valued (number : ℤ → Pair) (σ : Text → Pair) (ts : List Token) (values : List held.Pair) : Type 0 where
  pub register : (k : ℕ) (x : Text) → k < length ts → wide (slice_index_or ts k no_token) ≡ some x → pair_at values k ≡ σ x
  pub number_is : (k : ℕ) (z : ℤ) → k < length ts → number_of (slice_index_or ts k no_token) ≡ some z → pair_at values k ≡ number z

-- no register has two pairs in the table, and no number
pub record Consistent (ts : List Token) (values : List held.Pair) : Type 0 where
  pub number : ℤ → Pair
  pub register : Text → Pair
  pub valued : Valued number register ts values

abbrev pub pair_of : Value → Pair
pair_of v = numbers_of v.pair

abbrev pub worth_of : List Token → Worth → Option (Pair × List Lexeme)
worth_of ts (std.Some v) = some (pair_of v, left ts v.place.token v.place.byte)
worth_of ts std.None = none

-- the answer r is what an evaluator answers of the lexemes xs, whichever pairs the table has; and its place stands in the line. Of a table
-- that is consistent one answer alone is that (proofs/Determined.antt): pair, token and byte, none is free.
pub record Worths (tape area : Text) (line : List ℕ) (values : List held.Pair) (xs : List Lexeme)
    (evaluator : Arithmetic Pair → (Text → Pair) → ℕ → List Lexeme → Option (Pair × List Lexeme)) (r : Worth) : Type 0 where
  pub is : (number : ℤ → Pair) (σ : Text → Pair) → Valued number σ (tokens_of tape area line) values
      → worth_of (tokens_of tape area line) r ≡ evaluator (pairs number) σ (fuel_for xs) xs
  pub in_line : (v : Value) → r ≡ std.Some v → InLine line v.place.token v.place.byte

abbrev pub Term : Text → Text → List ℕ → List held.Pair → ℕ → ℕ → Worth → Type 0
Term tape area line values k b = Worths tape area line values (left (tokens_of tape area line) k b) term

abbrev pub Expression : Text → Text → List ℕ → List held.Pair → ℕ → ℕ → Worth → Type 0
Expression tape area line values k b = Worths tape area line values (left (tokens_of tape area line) k b) expression

abbrev pub value_of : std.Option held.Pair → Option Pair
value_of (std.Some p) = some (numbers_of p)
value_of std.None = none

-- the answer r is what a whole line is worth, whichever pairs the table has; of a table that is consistent one answer alone
abbrev pub Evaluates : Text → Text → List ℕ → List held.Pair → Text → std.Option held.Pair → Type 0
Evaluates tape area line values before r =
    (number : ℤ → Pair) (σ : Text → Pair) → Valued number σ (tokens_of tape area line) values
    → value_of r ≡ evaluate (pairs number) σ before (lexemes (tokens_of tape area line))
