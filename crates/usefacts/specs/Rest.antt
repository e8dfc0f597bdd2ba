-- What a line reads beside a use, as two runs of its tokens. Assumes nothing.
use Rattle.std.specs.Prelude.{ℕ, ◌≡◌, List, ◌++◌, length}
use Rattle.reference.specs.Control.{let_some◌else◌then◌, when◌then◌else◌}
use Rattle.reference.specs.Lists.{position}
use Rattle.reference.specs.Text.{bytes}
use Rattle.reference.specs.Listing.{Token}
use Rattle.reference.specs.Shapes.{is_kw}
use Rattle.cautions.specs.Values as cautions
use Rattle.lines.specs.Texts.{Holds, tokens_of}
use Rattle.lines.specs.declared.texts.Texts.{Texts}
use Rattle.usefacts.specs.declared.rest.Rest.{Rest}

-- how many tokens stand in front of a `goto`, or how many there are
unfoldable pub kept : List Token → ℕ
kept ts = let_some (position (is_kw (bytes "goto")) ts) else length ts then λ g. g

-- the words of both runs
abbrev pub words_of : Rest → List ℕ
words_of r = r.front.now ++ r.back.now

-- their tokens
abbrev pub tokens_in : Texts → Rest → List Token
tokens_in t r = tokens_of t r.front.now ++ tokens_of t r.back.now

-- the words of both point into their texts
pub record Held (t : Texts) (r : Rest) : Type 0 where
  pub front : Holds t r.front.now
  pub back : Holds t r.back.now

-- r is what the line reads beside the use at u
pub record RestOf (t : Texts) (line : List ℕ) (u : ℕ) (r : Rest) : Type 0 where
  pub held : Held t r
  pub is : tokens_in t r ≡ cautions.rest (tokens_of t line) u
