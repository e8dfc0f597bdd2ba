-- Paths: as text, and put together in a buffer. Assumes nothing.
use Rattle.std.specs.Prelude.{ℕ, ◌≡◌, ◌+◌, ◌++◌, List, [], ◌∷◌, Option, Some, None, Result, MatchResult, nat_le, ◌==◌, if◌then◌else◌}
use Rattle.std.specs.Prelude.{length, take}
use Rattle.std.specs.Str.{IsUtf8}
use Rattle.std.specs.Borrow.{Bor}
use Rattle.std.specs.List.{before_first}
use Rattle.std.proofs.Math.Seq.{paste}

-- a path as text, where it is UTF-8; otherwise an error
abbrev pub IsPath : {E : Type 0} → List ℕ → Result (Bor (List ℕ)) E → Type 0
IsPath name r = MatchResult r (λ s. (s.now ≡ name) × IsUtf8 name) (λ _. ¬ (IsUtf8 name))

-- the first n bytes; none where there are not so many
abbrev pub front_of : List ℕ → ℕ → List ℕ
front_of bytes n = if nat_le n (length bytes) then take n bytes else []

-- where n bytes end that are put at `at` of a buffer, if they fit
abbrev pub end_of : ℕ → ℕ → ℕ → Option ℕ
end_of room at n = if nat_le (at + n) room then Some (at + n) else None

-- the buffer then
abbrev pub appended : List ℕ → ℕ → List ℕ → List ℕ
appended old at s = if nat_le (at + length s) (length old) then paste old at s (length s) else old

-- the name of a path's lock: .lock behind it
abbrev pub lock_of : List ℕ → List ℕ
lock_of path = path ++ 46 ∷ 108 ∷ 111 ∷ 99 ∷ 107 ∷ []

-- the process that the name of a run tells: what stands before its first -
abbrev pub process_in : List ℕ → List ℕ
process_in run = before_first (λ b. b == 45) run
