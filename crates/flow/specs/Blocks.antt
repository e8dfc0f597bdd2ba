-- The closer and the opener of a block, by the braces without a partner of each line. Assumes nothing.
use Rattle.std.specs.Prelude.{ℕ, suc, ◌+◌, ◌-◌, ◌≤◌, ◌<◌, List, [], ◌∷◌, ltb, length, get_or, false}
use Rattle.std.proofs.Math.Option.{Option, none, some}
use Rattle.reference.specs.Control.{when◌then◌else◌}
use Rattle.flow.specs.declared.lineforms.Form.TheVariants.{Empty}
use Rattle.flow.specs.declared.lineforms.LineForm.{LineForm}

-- what stands behind the last line
abbrev pub no_form : LineForm
no_form = record { form = Empty; closes = 0; opens = 0; is_case = false; is_entered = false; is_opaque = false }

-- of lines, numbered from m, the first that closes what was open d blocks above
unfoldable pub closer_by : ℕ → ℕ → List LineForm → Option ℕ
closer_by d m [] = none
closer_by d m (r ∷ rs) = when ltb d r.closes then some m else closer_by (d - r.closes + r.opens) (suc m) rs

-- of lines from the last to the first, the first that opens what is closed d blocks below
unfoldable pub opener_by : ℕ → List LineForm → Option ℕ
opener_by d [] = none
opener_by d (r ∷ rs) = when ltb d r.opens then some (length rs) else opener_by (d - r.opens + r.closes) rs

-- each line has few braces
abbrev pub FewBraces : List LineForm → Type 0
FewBraces forms = (k : ℕ) → k < length forms → (get_or forms k no_form).closes + (get_or forms k no_form).opens ≤ 8589934593
