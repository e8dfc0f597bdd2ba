-- What one line decides of a family's value: `killed_first` and `dead_from` of the reference, line by line. Assumes nothing.
use Rattle.std.specs.Prelude.{ℕ, Bool, true, false, List, leb}
use Rattle.reference.specs.Control.{◌and◌, when◌then◌else◌}
use Rattle.reference.specs.Text.{Text}
use Rattle.reference.specs.Listing.{Line, Listing}
use Rattle.reference.specs.Shapes.{has_kw}
use Rattle.reference.specs.Life.{touch, match_touch, Labels, while_passes, goto_passes}
use Rattle.life.specs.declared.liveness.Liveness.{Liveness}
use Rattle.life.specs.declared.liveness.Liveness.TheVariants.{Dead, Live, Open}

-- the answer at a line, where `next` is what the lines after it say
abbrev pub decided : Liveness → Bool → Bool
decided Dead next = true
decided Live next = false
decided Open next = next

-- a line that reads the value, or overwrites it at most `deep` deep
unfoldable pub line_liveness : Text → ℕ → List Text → Line → Liveness
line_liveness fam deep volatile l =
    match_touch (touch l fam volatile) Open (when leb l.indent deep then Dead else Open) (λ n. Live)

-- a line that returns, at most `base-indent` deep
unfoldable pub returns_at : ℕ → Line → Bool
returns_at base-indent l = has_kw l "return" and leb l.indent base-indent

-- a line that does not decide, and returns
abbrev pub or_returns : Liveness → Bool → Liveness
or_returns Dead b = Dead
or_returns Live b = Live
or_returns Open b = when b then Dead else Open

-- what `scan` of the code answers: a line that no jump decides
unfoldable pub scan_liveness : Text → ℕ → List Text → Line → Liveness
scan_liveness fam base-indent volatile l = or_returns (line_liveness fam base-indent volatile l) (returns_at base-indent l)

module _ (lines : Listing) (fam : Text) (base-indent : ℕ) (labels : Labels) (start : ℕ) (volatile : List Text) where
  -- what `dead_from` decides at the line w
  unfoldable pub liveness_after : ℕ → Line → Liveness
  liveness_after w l =
      when has_kw l "while" then (when while_passes lines fam start volatile w l then Open else Live)
      else when goto_passes lines fam start volatile labels l then scan_liveness fam base-indent volatile l
      else Live
