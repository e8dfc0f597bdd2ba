-- Marks in tables, as code keeps them (M-105): two numbers for each line of the input, and a list of the lines' numbers in the input
-- ("origins"), which a line word holds. No marks are the two numbers that join nothing: the highest there is as lowest, and 0 as highest.
-- Assumes nothing.
use Rattle.std.specs.Prelude.{ℕ, suc, ◌≤◌, min, max, ◌≡◌, ◌⊎◌, List, [], ◌∷◌, map, leb, get_or}
use Rattle.std.proofs.Math.Option.{none, some}
use Rattle.reference.specs.Control.{when◌then◌else◌}
use Rattle.reference.specs.Spans.{Marks}

-- ---- two numbers

abbrev pub TOP : ℕ
TOP = 18446744073709551615

abbrev pub Pair : Type 0
Pair = ℕ × ℕ

-- the marks that two numbers stand for
unfoldable pub marks_of : Pair → Marks
marks_of p = when leb p.0 p.1 then some (record { lowest = p.0; highest = p.1 }) else none

-- such pairs are kept: an address or more, or none
pub record Kept (p : Pair) : Type 0 where
  pub in_64_bits : (p.0 ≤ TOP) × (p.1 ≤ TOP)
  pub some_or_none : (p.0 ≤ p.1) ⊎ ((p.0 ≡ TOP) × (p.1 ≡ 0))

-- two pairs joined, without a test
abbrev pub joined : Pair → Pair → Pair
joined p q = (min p.0 q.0, max p.1 q.1)

-- ---- by the number of the input line

-- the two numbers that are at k in two tables
abbrev pub pair_at : List ℕ → List ℕ → ℕ → Pair
pair_at lows highs k = (get_or lows k 0, get_or highs k 0)

-- the marks of lines, each by its number, which `origin` tells
abbrev pub marks_by : (ℕ → ℕ) → List ℕ → List ℕ → List ℕ → List Marks
marks_by origin lows highs lines = map (λ l. marks_of (pair_at lows highs (origin l))) lines

-- the numbers rise, from k on: no two lines have the same
abbrev pub Rising : ℕ → List ℕ → Type 0
Rising k [] = Unit {0}
Rising k (o ∷ os) = (k ≤ o) × Rising (suc o) os
