-- That a line hangs on a condition, by its form in the table: what a caller shows for `Ready`. Assumes nothing.
use mathlib.Core.Path.{◌≡◌, ◌∙◌}
use mathlib.Core.Bool.{Bool}
use mathlib.Core.List.{List}
use Rattle.reference.specs.Listing.{Token}
use Rattle.cautions.specs.Forms.{form, is_guarded}
use Rattle.flow.specs.LineForms.{Formed}
use Rattle.flow.specs.Values.{guards}
use Rattle.flow.specs.declared.lineforms.LineForm.{LineForm}
use Rattle.flow.proofs.Touched.{guarded_by}

-- x is the answer of flow's `is_guarded` to the form of the line
pub guarded_line : (ts : List Token) {r : LineForm} → Formed ts r → {x : Bool} → x ≡ guards r.form → x ≡ is_guarded ts
unfolding is_guarded
guarded_line ts {r} h e = e ∙ guarded_by (form ts) r.form h.form_is
