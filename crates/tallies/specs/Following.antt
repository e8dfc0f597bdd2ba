-- Which finished line a raw line became, followed through the attempts of a run; and as the page asks it: in a copy of the listing in which
-- this line alone has an address, the finished line that has one. proofs/Following.antt shows that the two are one. Assumes nothing.
use Rattle.std.specs.Prelude.{ℕ, List, [], ◌∷◌, eqb}
use Rattle.std.proofs.Math.Option.{Option, none, some}
use Rattle.reference.specs.Control.{when◌then◌else◌, let_some◌else◌then◌}
use Rattle.reference.specs.Lists.{position, is_some}
use Rattle.reference.specs.Listing.{Listing}
use Rattle.reference.specs.Rules.{Rules}
use Rattle.reference.specs.Run.{Attempt, run, attempts_of, finished}
use Rattle.reference.specs.Marks.{moved}
use Rattle.sources.specs.Only.{only}

-- the place of line p after one attempt, if it is not gone
unfoldable pub place_after : Attempt → ℕ → Option ℕ
place_after a p = when a.removed then (when eqb p a.line then none else some (moved a.line p)) else some p

-- after these attempts
unfoldable pub followed : List Attempt → Option ℕ → Option ℕ
followed [] o = o
followed (a ∷ more) o = followed more (let_some o else none then place_after a)

-- the finished line that raw line k became
unfoldable pub became : Rules → Listing → ℕ → Option ℕ
became rules input k = followed (attempts_of (run rules input)) (some k)

-- as the page asks it
unfoldable pub told_by_copy : Rules → Listing → ℕ → Option ℕ
told_by_copy rules input k = position (λ l. is_some l.address) (finished rules (only k input))
