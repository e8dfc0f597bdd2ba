-- The words of a cautioned line on the page: of each kind of its set the name and the sentence, escaped. Assumes nothing.
use Rattle.std.specs.Prelude.{ℕ, ◌++◌}
use Rattle.reference.specs.Text.{Text, bytes}
use Rattle.page.specs.Escaping.{escaped}
use Rattle.caution_words.specs.Told.{name_of, sentence_of, every, told_by}
use Rattle.caution_words.specs.declared.each.Caution.{Caution}

-- of a kind: <p><b>NAME:</b> SENTENCE</p>
unfoldable pub kind_cell : Caution → Text
kind_cell kind = bytes "<p><b>" ++ name_of kind ++ bytes ":</b> " ++ escaped (sentence_of kind) ++ bytes "</p>"

-- of each kind of a set, in the order of their bits
unfoldable pub set_cells : ℕ → Text
set_cells set = told_by kind_cell set every
