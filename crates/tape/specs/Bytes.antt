-- Bytes put into a list from a place on. Assumes nothing.
use Rattle.std.specs.Prelude.{ℕ, ◌+◌, ◌≡◌, List, ◌++◌, length, take, drop}

-- `bytes` in the place of what stood there
unfoldable pub put : List ℕ → ℕ → List ℕ → List ℕ
put out at bytes = take at out ++ bytes ++ drop (at + length bytes) out

-- what a function that writes `bytes` leaves, and where it says that they end
pub record Puts (out : List ℕ) (at : ℕ) (bytes after : List ℕ) (next : ℕ) : Type 0 where
  pub holds : after ≡ put out at bytes
  pub ends : next ≡ at + length bytes
