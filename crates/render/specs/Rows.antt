-- The class of a raw line's row, and the sign before it, by what became of the line. Assumes nothing.
use Rattle.reference.specs.Text.{Text, bytes}
use Rattle.tallies.specs.declared.fates.Fate.{Fate}
use Rattle.tallies.specs.declared.fates.Fate.TheVariants.{Gone, Rewritten, Cut, Kept}

abbrev pub class_of : Fate → Text
class_of Gone = bytes "gone"
class_of Rewritten = bytes "changed"
class_of Cut = bytes "cut"
class_of Kept = bytes "kept"

-- as the page's source has it
abbrev pub sign_of : Fate → Text
sign_of Gone = bytes "&minus;"
sign_of Rewritten = bytes "~"
sign_of Cut = bytes "/"
sign_of Kept = bytes ""
