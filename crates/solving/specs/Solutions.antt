-- What the code of this crate answers: the smallest number that works, or that none of 64 bits does. Request M-107: "the smallest unsigned
-- start value that makes the formula return it modulo 2^64, or that none exists". Assumes nothing.
use Rattle.std.specs.Prelude.{◌≡◌, ℕ, ◌*◌, ◌%◌, ◌^◌, ◌<◌, Option, Some, None}

-- x works, and nothing smaller does
pub record Smallest (works : ℕ → Type 0) (x : ℕ) : Type 0 where
  pub does : works x
  pub least : (y : ℕ) → y < x → works y → ⊥

-- what an answer says of the numbers that work
abbrev pub Answers : (ℕ → Type 0) → Option ℕ → Type 0
Answers works (Some x) = (x < 2 ^ 64) × Smallest works x
Answers works None = (y : ℕ) → y < 2 ^ 64 → works y → ⊥

-- a · x is c, modulo 2^n
abbrev pub Solves : ℕ → ℕ → ℕ → ℕ → Type 0
Solves n a c x = a * x % 2 ^ n ≡ c % 2 ^ n
