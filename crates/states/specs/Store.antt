-- Request M-111's store, cell by cell, and what it means: a partial map from names to tapes. Assumes nothing.
use Rattle.std.specs.Prelude.{ℕ, zero, suc, ◌*◌, Bool, List, ltb, eqb, get_or, take, drop}
use Rattle.std.proofs.Math.Option.{Option, none, some}
use Rattle.reference.specs.Control.{◌and◌, ◌or◌, when◌then◌else◌, let_some◌else◌then◌}
use Rattle.reference.specs.Lists.{is_some}
use Rattle.reference.specs.Text.{◌≟◌}
use Rattle.reference.specs.Tape.{from_le_bytes}

abbrev pub Store : Type 0
Store = List ℕ

abbrev pub Cell : Type 0
Cell = List ℕ

abbrev pub Name : Type 0
Name = List ℕ

abbrev pub Tape : Type 0
Tape = List ℕ

-- "a lent store of eight cells of 65,536 bytes". The numbers are shut (`unfoldable`), so that no check counts up to them.
unfoldable pub CELL : ℕ
CELL = 65536

unfoldable pub STORE : ℕ
STORE = 524288

-- what a cell has for its tape
unfoldable pub ROOM : ℕ
ROOM = 65523

unfoldable pub cell : Store → ℕ → Cell
cell store i = take CELL (drop (i * CELL) store)

-- ---- one cell: "a byte 0 (free) or 1, the name, a 4-byte little-endian length, the tape"

unfoldable pub first_byte : Cell → ℕ
first_byte c = get_or c 0 0

unfoldable pub name_of : Cell → Name
name_of c = take 8 (drop 1 c)

unfoldable pub length_of : Cell → ℕ
length_of c = from_le_bytes (take 4 (drop 9 c))

unfoldable pub tape_of : Cell → Tape
tape_of c = take (length_of c) (drop 13 c)

abbrev pub is_free : Cell → Bool
is_free c = eqb (first_byte c) 0

abbrev pub is_held : Cell → Bool
is_held c = eqb (first_byte c) 1

-- held, and under that name
unfoldable pub holds : Name → Cell → Bool
holds n c = is_held c and (name_of c ≟ n)

-- ---- cells looked for

-- the first of the k numbers from i on that passes a test
unfoldable pub first : ℕ → ℕ → (ℕ → Bool) → Option ℕ
first zero i p = none
first (suc k) i p = let r = first k (suc i) p in when p i then some i else r

-- the cell, of the first k, that is held under a name
abbrev pub named : Store → ℕ → Name → Option ℕ
named store k n = first k 0 (λ i. holds n (cell store i))

abbrev pub free_cell : Store → Option ℕ
free_cell store = first 8 0 (λ i. is_free (cell store i))

-- 22: "whose first byte is above 1, or which is held with a length above 65,523 or an earlier held cell's name"
unfoldable pub is_wrong : Store → ℕ → Bool
is_wrong store i =
    let c : Cell = cell store i in
    ltb 1 (first_byte c) or (is_held c and (ltb ROOM (length_of c) or is_some (named store i (name_of c))))

abbrev pub wrong_cell : Store → Option ℕ
wrong_cell store = first 8 0 (is_wrong store)

-- ---- the list of what is held

-- a name, and how long the tape is that is held under it
pub record Entry : Type 0 where
  pub name : Name
  pub length : ℕ

-- what the list has of a cell that is held
unfoldable pub entry_in : Cell → Option Entry
entry_in c = when is_held c then some (record { name = name_of c; length = length_of c }) else none

-- what it has of cell i: nothing, where it is none of the eight or is not held
unfoldable pub entry_at : Store → ℕ → Option Entry
entry_at store i = when ltb i 8 then entry_in (cell store i) else none

-- ---- what a store means: the tape that is held under a name

unfoldable pub state : Store → Name → Option Tape
state store n = let_some (named store 8 n) else none then λ i. some (tape_of (cell store i))
