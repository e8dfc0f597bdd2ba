-- A word for contracts. Assumes nothing.
use Rattle.std.specs.Borrow.{Bor}
use denote.Triple.Both.{Both}

-- what the reference x referred to when the function was called
abbrev pub was : {X E : Type 0} → Both (Bor X) E → X
was x = x.entry.now
