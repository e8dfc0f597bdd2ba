-- `lines::traits::is_spaced` meets its contract. Assumes nothing.
use mathlib.Core.Path.{refl, sym}
use borrow.Author.Tests.{lt-ltb, le-ltb}
use Rattle.reference.specs.Control.{◌and◌}
use Rattle.laws.proofs.Scans.{and_second, not_same}
use Rattle.lines.proofs.traits.is_spaced.Goals as goal

pub returns-then-t-s : goal.returns-then-t-s
returns-then-t-s c = rw (← c.trim-t.ensures) (and_second (sym (lt-ltb _ _ c.if-t-s.true)) refl (not_same c.same.ensures))

pub returns-else-t-s : goal.returns-else-t-s
unfolding ◌and◌
returns-else-t-s c = rw (← c.trim-t.ensures, le-ltb _ _ c.if-t-s.false)
