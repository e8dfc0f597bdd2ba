-- What a scan for changes says of the bytes that come. Assumes nothing.
use Rattle.std.specs.Prelude.{ℕ, ◌+◌, ◌∷◌}
use Rattle.reference.specs.Text.{Text}
use Rattle.cautions.specs.Texts.{marks_after}
use Rattle.flow.specs.declared.marks.Marking.{Marking}

-- the changes of all, where s is what follows
unfoldable pub marking : Marking → Text → ℕ
marking m s = m.count + marks_after m.before (m.last ∷ s)
