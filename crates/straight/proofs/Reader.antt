-- The reader: a line read from left to right, byte by byte through its Puncts, its value formed on the way. Merging neighbouring Puncts changes nothing of
-- that, and a register that gives way to an expression leaves the reader in the same state: so the meaning is proved with it. That it gives the values of
-- the evaluators (crate reference, specs/Evaluators.antt) is proved in Evaluators.antt. Assumes nothing.
use Prim.Native.Nat.{ℕ}
use mathlib.Core.List.{List, [], ◌∷◌}
use mathlib.Core.Option.{Option, none, some}
use lib.Dec.{eqb}
use Rattle.reference.specs.Control.{when◌then◌else◌, let_some◌else◌then◌}
use Rattle.reference.specs.Text.{Text}
use Rattle.reference.specs.Listing.{Token, is, Punct}
use Rattle.reference.specs.Evaluators.{Store, plus, minus, of_integer, wide, number_of}

-- what waits for the next term: nothing, where an expression begins; or the sum so far, to which it is added or from which it is taken
pub data Pending : Type 0 where
  first : Pending
  adds takes : ℕ → Pending

unfoldable pub apply : Pending → ℕ → ℕ
apply first v = v
apply (adds u) v = plus u v
apply (takes u) v = minus u v

-- the state behind a byte or a token; the list holds what waits outside each bracket that is open, the innermost first
pub data State : Type 0 where
  -- nothing is read of ` = `; its space is; its space and its `=` are
  fresh spaced equals : State
  -- a term comes next
  wants : Pending → List Pending → State
  -- an expression has been read, of this value; and a space behind it
  holds gap : ℕ → List Pending → State
  -- ` +` or ` -` has been read
  signed : Pending → List Pending → State
  -- `;` has been read
  done : ℕ → State
  broken : State

unfoldable pub byte : ℕ → State → State
byte c fresh = when eqb c 32 then spaced else broken
byte c spaced = when eqb c 61 then equals else broken
byte c equals = when eqb c 32 then wants first [] else broken
byte c (wants p k) = when eqb c 40 then wants first (p ∷ k) else broken
byte c (holds v []) = when eqb c 59 then done v else when eqb c 32 then gap v [] else broken
byte c (holds v (p ∷ k)) = when eqb c 41 then holds (apply p v) k else when eqb c 32 then gap v (p ∷ k) else broken
byte c (gap v k) = when eqb c 43 then signed (adds v) k else when eqb c 45 then signed (takes v) k else broken
byte c (signed p k) = when eqb c 32 then wants p k else broken
byte c (done v) = broken
byte c broken = broken

unfoldable pub text_step : Text → State → State
text_step [] s = s
text_step (c ∷ cs) s = text_step cs (byte c s)

-- a term of this value
unfoldable pub term : ℕ → State → State
term v (wants p k) = holds (apply p v) k
term v fresh = broken
term v spaced = broken
term v equals = broken
term v (holds u k) = broken
term v (gap u k) = broken
term v (signed p k) = broken
term v (done u) = broken
term v broken = broken

unfoldable pub token-step : Store → Token → State → State
token-step σ t s =
    when is Punct t then text_step t.text s
    else let_some (wide t) else (let_some (number_of t) else broken then λ z. term (of_integer z) s) then λ x. term (σ x) s

-- one token after another
unfoldable pub run-tokens : Store → List Token → State → State
run-tokens σ [] s = s
run-tokens σ (t ∷ ts) s = run-tokens σ ts (token-step σ t s)

-- the value of a line that was read to its end
unfoldable pub value_of : State → Option ℕ
value_of fresh = none
value_of spaced = none
value_of equals = none
value_of (wants p k) = none
value_of (holds v k) = none
value_of (gap v k) = none
value_of (signed p k) = none
value_of (done v) = some v
value_of broken = none
