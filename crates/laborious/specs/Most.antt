-- M-108's bound, and the attempts that it bounds. Assumes nothing.
use Rattle.std.specs.Prelude.{ℕ, zero, suc, ◌*◌, ◌-◌}
use Rattle.reference.specs.Listing.{Listing}
use Rattle.reference.specs.Rules.{Rules}
use Rattle.reference.specs.Run.{run, attempts_in}

-- the attempts of the first round of a run
abbrev pub first_attempts : Rules → Listing → ℕ
first_attempts rules lines = attempts_in 0 (run rules lines).rounds

-- the most attempts of a round that begins with n lines: "0 for none, 1 for one, and 2n - 2 from two on"
unfoldable pub most_attempts : ℕ → ℕ
most_attempts zero = 0
most_attempts (suc zero) = 1
most_attempts (suc (suc n)) = 2 * suc (suc n) - 2
