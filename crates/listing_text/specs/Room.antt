-- Bytes put into a lent slice as far as they fit. Assumes nothing.
use Rattle.std.specs.Prelude.{ℕ, ◌+◌, ◌≡◌, Bool, true, false, List, [], ◌∷◌, ◌++◌, ltb, length, take, drop, set}
use Rattle.reference.specs.Control.{when◌then◌else◌}
use Rattle.reference.specs.Text.{Text}
use Rattle.listing_text.specs.declared.room.Clipped.{Clipped}

-- a slice whose front holds as much of a text as it has room for; what lies behind the text is as it was
unfoldable pub laid : List ℕ → Text → List ℕ
laid out t = take (length out) t ++ drop (length t) out

-- ---- step by step, as the code does it

-- a slice, how far it is filled, and whether a byte did not fit
pub record Page : Type 0 where
  pub bytes : List ℕ
  pub at : ℕ
  pub cut : Bool

abbrev pub page : Clipped → Page
page p = record { bytes = p.out.now; at = p.at; cut = p.cut }

unfoldable pub put_one : Page → ℕ → Page
put_one g b =
    when ltb g.at (length g.bytes) then record { bytes = set g.bytes g.at b; at = g.at + 1; cut = g.cut }
    else record { bytes = g.bytes; at = g.at; cut = true }

unfoldable pub puts : Page → Text → Page
puts g [] = g
puts g (b ∷ t) = puts (put_one g b) t

-- a page with a text put behind what it holds
pub record Adds (g : Page) (t : Text) (g' : Page) : Type 0 where
  pub same : g' ≡ puts g t

-- a text is put, into the same slice
pub record Puts (p : Clipped) (t : Text) (p' : Clipped) : Type 0 where
  pub adds : Adds (page p) t (page p')
  pub lent : p'.out.ghost_name ≡ p.out.ghost_name

-- with nothing put yet
abbrev pub empty : List ℕ → Page
empty out = record { bytes = out; at = 0; cut = false }
