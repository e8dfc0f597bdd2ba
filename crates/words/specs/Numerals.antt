-- The numbers that digits stand for. Assumes nothing.
use Rattle.std.specs.Prelude.{ℕ, ◌+◌, ◌-◌, ◌*◌, ◌^◌, [], ◌∷◌, eqb, ltb, leb, length, drop}
use Rattle.std.proofs.Math.Option.{Option, none, some}
use Rattle.reference.specs.Control.{when◌then◌else◌, let_some◌else◌then◌}
use Rattle.reference.specs.Text.{Text, bytes, starts_with}

-- 0 to 9, A to F, a to f; 16 for another byte
unfoldable pub digit : ℕ → ℕ
digit b =
    when ltb b 48 then 16 else when ltb b 58 then b - 48 else when ltb b 65 then 16 else when ltb b 71 then b - 55
    else when ltb b 97 then 16 else when ltb b 103 then b - 87 else 16

-- a digit to a base of 16 or less
unfoldable pub digit_in : ℕ → ℕ → Option ℕ
digit_in base b = when leb base (digit b) then none else some (digit b)

-- the number that digits stand for, behind a number v
unfoldable pub digits_from : ℕ → ℕ → Text → Option ℕ
digits_from base v [] = some v
digits_from base v (b ∷ bs) = let rest = digits_from base (v * base + digit b) bs in when leb base (digit b) then none else rest

-- 1 to 16 digits
unfoldable pub number_in : ℕ → Text → Option ℕ
number_in base w = when eqb (length w) 0 then none else when ltb 16 (length w) then none else digits_from base 0 w

-- hexadecimal, with 0x in front or without
unfoldable pub base_in : Text → Option ℕ
base_in w = when starts_with w (bytes "0x") then number_in 16 (drop 2 w) else number_in 16 w

-- ---- what a 64-bit register can hold

unfoldable pub within_64 : Option ℕ → Option ℕ
within_64 o = let_some o else none then λ v. when ltb v (2 ^ 64) then some v else none

-- one digit or more
unfoldable pub unsigned_in : ℕ → Text → Option ℕ
unsigned_in base w = when eqb (length w) 0 then none else within_64 (digits_from base 0 w)

-- decimal, or hexadecimal behind 0x
unfoldable pub magnitude_in : Text → Option ℕ
magnitude_in w = when starts_with w (bytes "0x") then unsigned_in 16 (drop 2 w) else unsigned_in 10 w

-- a number behind a minus, down to -2^63, as two's complement has it
unfoldable pub negated : ℕ → Option ℕ
negated v = when eqb v 0 then some 0 else when ltb (2 ^ 63) v then none else some (2 ^ 64 - v)

unfoldable pub negative_in : Text → Option ℕ
negative_in w = let_some magnitude_in w else none then λ v. negated v

unfoldable pub integer_in : Text → Option ℕ
integer_in w = when starts_with w (bytes "-") then negative_in (drop 1 w) else magnitude_in w
