-- A round and the cuts as loops go through them, without fuel. Assumes nothing.
use Rattle.std.specs.Prelude.{ℕ, ◌+◌, ◌-◌, List, length, drop}
use Rattle.reference.specs.Lists.{modify}
use Rattle.reference.specs.Text.{Text}
use Rattle.reference.specs.Listing.{Listing, with_tokens}
use Rattle.reference.specs.Rules.{Rules}
use Rattle.reference.specs.Life.{Labels}
use Rattle.reference.specs.Run.{Attempt, attempts_from, cuts_from}

-- the attempts of a round that stands at line i
unfoldable pub attempts : Rules → List Text → ℕ → Listing → Labels → List Attempt
attempts rules addressed i lines labels = attempts_from rules addressed (length lines + length lines) i lines labels

-- line i without its first two tokens
abbrev pub cut_at : ℕ → Listing → Listing
cut_at i lines = modify i (λ l. with_tokens (drop 2 l.tokens) l) lines

-- the listings after each cut from line i on
unfoldable pub cuts : Rules → Labels → ℕ → Listing → List Listing
cuts rules labels i lines = cuts_from rules labels (length lines - i) i lines
