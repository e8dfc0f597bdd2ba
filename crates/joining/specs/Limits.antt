-- The limits that every listing of an accepted run keeps, and the room in an area that the texts of a listing's tokens have: 24 bytes a
-- token, and what a text other than a number's has beside them. Assumes nothing.
use Rattle.std.specs.Prelude.{ℕ, ◌+◌, ◌-◌, ◌≤◌, length}
use Rattle.reference.specs.Control.{when◌then◌else◌}
use Rattle.reference.specs.Listing.{Token, is, Number, Listing}
use Rattle.reference.specs.Claim.{sum, size}
use Rattle.reference.proofs.Fits.{Fits}

pub record RunLimits (lines : Listing) : Type 0 where
  pub lines_fit : length lines ≤ 256
  pub fits : Fits lines

-- the text of a token that is no number
abbrev pub plain_size : Token → ℕ
plain_size t = when is Number t then 0 else size t

-- what a number's text has past 24 bytes
abbrev pub over : Token → ℕ
over t = when is Number t then size t - 24 else 0

-- the room that a token is given
abbrev pub room : Token → ℕ
room t = plain_size t + 24

-- the sum over all tokens of a listing
abbrev pub each_token : (Token → ℕ) → Listing → ℕ
each_token f = sum (λ l. sum f l.tokens)
