-- What the table of pairs means, and what the functions over it do. Assumes nothing.
use Rattle.std.specs.Prelude.{ℕ, ◌+◌, ◌≤◌, ◌<◌, ◌≡◌, Bool, List, ℤ, length, drop, get_or}
use Rattle.std.proofs.Math.Option.{none, some}
use Rattle.reference.specs.Control.{◌and◌, when◌then◌else◌}
use Rattle.reference.specs.Text.{Text, ◌≟◌}
use Rattle.reference.specs.Listing.{Token, is, Register}
use Rattle.reference.specs.Evaluators.{of_integer, wide, number_of}
use Rattle.reference.specs.Straight.{assign, assigned_value, returned_value, breaks}
use Rattle.lines.specs.Lines.{part_of, first_of, count_of, Reading, listing_read}
use Rattle.lines.specs.Words.{Holds}
use Rattle.formula.specs.Places.{Readable}
use Rattle.formula.specs.Profile.{FilledIn}
use Rattle.formula.specs.Values.{Pair, pair_at, no_token, Valued}
use Rattle.start.specs.Pairs.{affine}
use Rattle.formula.specs.declared.evaluators.Pair.{Pair as Numbers}

-- a number's pair
abbrev pub number_pair : ℤ → Pair
number_pair z = (0, of_integer z)

-- the pair p is what a token is worth, the registers being worth σ
pub record Prices (σ : Text → Pair) (t : Token) (p : Pair) : Type 0 where
  pub register : (x : Text) → wide t ≡ some x → p ≡ σ x
  pub number : (z : ℤ) → number_of t ≡ some z → p ≡ number_pair z

-- the table has what each token is worth
abbrev pub Priced : (Text → Pair) → List Token → List Numbers → Type 0
Priced σ ts values = Valued number_pair σ ts values

-- ... the registers being worth something: no register has two pairs in the table
pub record IsPriced (ts : List Token) (values : List Numbers) : Type 0 where
  pub store : Text → Pair
  pub priced : Priced store ts values

-- ---- an assignment

-- whether a token is the register that the first one is
unfoldable pub same_register : Token → Token → Bool
same_register target t = is Register t and (t.text ≟ target.text)

-- the tokens of the register `target` have the pair p now, all others what they had
abbrev pub Overwritten : Token → Pair → List Token → List Numbers → List Numbers → Type 0
Overwritten target p ts values values' =
    (k : ℕ) → k < length ts → pair_at values' k ≡ (when same_register target (get_or ts k no_token) then p else pair_at values k)

-- ---- a line

-- a line word whose line has a token at least, each with a text
pub record Begun (tape area : Text) (tokens : List ℕ) (l : ℕ) : Type 0 where
  pub readable : Readable tape area (part_of tokens l)
  pub some_token : 1 ≤ count_of l
  pub inside : first_of l + count_of l ≤ length tokens

-- a line of these tokens was read as an assignment: the table, of all tokens `all`, has the pairs behind it
abbrev pub Assigned : List Token → List Token → List Numbers → List Numbers → Type 0
Assigned line all values values' =
    (σ : Text → Pair) (x : Text) (v : Pair) → Priced σ all values → wide (get_or line 0 no_token) ≡ some x
    → assigned_value affine σ (drop 1 line) ≡ some v → Priced (assign x v σ) all values'

-- ... and as a return
abbrev pub Returned : List Token → List Token → List Numbers → Pair → Type 0
Returned line all values p =
    (σ : Text → Pair) (v : Pair) → Priced σ all values → returned_value affine σ (drop 1 line) ≡ some v → v ≡ p

-- ---- a listing

-- each line can be read, and in the profile
pub record Profiled (tape area : Text) (tokens lines : List ℕ) : Type 0 where
  pub filled : FilledIn tape area tokens lines
  pub holds : Holds tape area tokens
  pub in_profile : (reading : Reading) → breaks (listing_read tape area tokens reading lines) ≡ none
