-- What stands on the page for a text: five bytes that mean something to a browser become entities, the others stay. Assumes nothing.
use Rattle.std.specs.Prelude.{ℕ, zero, suc, ◌≡◌, Bool, true, false, eqb, length, drop}
use mathlib.Core.List.{[], ◌∷◌, flat_map}
use Rattle.reference.specs.Control.{not, ◌and◌, ◌or◌, when◌then◌else◌}
use Rattle.reference.specs.Lists.{any}
use Rattle.reference.specs.Text.{Text, bytes, starts_with}

-- the byte itself, or its entity: of & < > " '
unfoldable pub entity : ℕ → Text
entity b =
    when eqb b 38 then bytes "&amp;"
    else when eqb b 60 then bytes "&lt;"
    else when eqb b 62 then bytes "&gt;"
    else when eqb b 34 then bytes "&quot;"
    else when eqb b 39 then bytes "&#39;"
    else b ∷ []

unfoldable pub escaped : Text → Text
escaped t = flat_map entity t

-- ---- what a browser makes of it

-- whether a text begins with one of the five entities
unfoldable pub begins_entity : Text → Bool
begins_entity s =
    starts_with s (bytes "&amp;") or starts_with s (bytes "&lt;") or starts_with s (bytes "&gt;") or starts_with s (bytes "&quot;")
    or starts_with s (bytes "&#39;")

-- whether every & in a text begins one of them
unfoldable pub ampersands_begin : Text → Bool
ampersands_begin [] = true
ampersands_begin (b ∷ s) = (not (eqb b 38) or begins_entity (b ∷ s)) and ampersands_begin s

-- the bytes that end a text and begin something else: < > " '
abbrev pub is_markup : ℕ → Bool
is_markup b = eqb b 60 or eqb b 62 or eqb b 34 or eqb b 39

-- a text that a browser cannot leave: it holds none of the four, and every & in it begins an entity
pub record Closed (s : Text) : Type 0 where
  pub no_markup : any is_markup s ≡ false
  pub only_entities : ampersands_begin s ≡ true

-- the text behind an & read: the byte that an entity stands for, or the & itself; `rest` reads what follows
unfoldable pub after_ampersand : (Text → Text) → Text → Text
after_ampersand rest s =
    when starts_with s (bytes "amp;") then 38 ∷ rest (drop 4 s)
    else when starts_with s (bytes "lt;") then 60 ∷ rest (drop 3 s)
    else when starts_with s (bytes "gt;") then 62 ∷ rest (drop 3 s)
    else when starts_with s (bytes "quot;") then 34 ∷ rest (drop 5 s)
    else when starts_with s (bytes "#39;") then 39 ∷ rest (drop 4 s)
    else 38 ∷ rest s

-- at most n bytes and entities of a text, read from the left
unfoldable pub unescaped_by : ℕ → Text → Text
unescaped_by zero s = []
unescaped_by (suc n) [] = []
unescaped_by (suc n) (b ∷ s) = when eqb b 38 then after_ampersand (unescaped_by n) s else b ∷ unescaped_by n s

unfoldable pub unescaped : Text → Text
unescaped s = unescaped_by (length s) s
