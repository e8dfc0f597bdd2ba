-- The cells of the page: constant markup around an escaped text. No other byte of a listing reaches the page. Assumes nothing.
use Rattle.std.specs.Prelude.{ℕ, zero, suc, length, take, drop}
use mathlib.Core.List.{List, [], ◌++◌, flat_map}
use Rattle.reference.specs.Control.{when◌then◌else◌}
use Rattle.reference.specs.Lists.{is_empty}
use Rattle.reference.specs.Text.{Text, bytes}
use Rattle.reference.specs.Listing.{Token}
use Rattle.printing.specs.Decimals.{decimal}
use Rattle.page.specs.Escaping.{escaped}

-- a text of a kind, as the tape numbers them (docs/TAPE.md): <i class=kKIND>TEXT</i>
unfoldable pub cell : ℕ → Text → Text
cell kind t = bytes "<i class=k" ++ decimal kind ++ bytes ">" ++ escaped t ++ bytes "</i>"

-- a text in cells of 512 bytes at most, side by side; `fuel` bounds them
unfoldable pub cells_by : ℕ → ℕ → Text → Text
cells_by zero kind t = []
cells_by (suc fuel) kind t =
    let more : Text = cells_by fuel kind (drop 512 t) in
    when is_empty t then [] else cell kind (take 512 t) ++ more

unfoldable pub cells : ℕ → Text → Text
cells kind t = cells_by (length t) kind t

-- the tokens of a line, side by side
unfoldable pub line_cells : List Token → Text
line_cells ts = flat_map (λ t. cells t.kind t.text) ts
