-- The sets of kinds that the library's call writes: two bytes for each finished line, the low one first. Assumes nothing.
use Rattle.std.specs.Prelude.{ℕ, zero, suc, ◌+◌, ◌*◌, ◌/◌, List, eqb, ltb, length, get_or, if◌then◌else◌}

-- the set of line q, from 0; the empty one where there is no such line
abbrev pub set_at : List ℕ → ℕ → ℕ
set_at sets q = if ltb q (length sets / 2) then get_or sets (2 * q) 0 + 256 * get_or sets (2 * q + 1) 0 else 0

-- how many of the first n lines have a caution
unfoldable pub cautioned_below : ℕ → List ℕ → ℕ
cautioned_below zero sets = 0
cautioned_below (suc q) sets = cautioned_below q sets + (if eqb (set_at sets q) 0 then 0 else 1)

-- how many of all lines
unfoldable pub count_cautioned : List ℕ → ℕ
count_cautioned sets = cautioned_below (length sets / 2) sets
