-- `flow::spelling::with_byte` meets its contract. Assumes nothing.
use mathlib.Core.Path.{refl}
use Rattle.flow.specs.Spelling.{spelled}
use Rattle.flow.proofs.spelling.with_byte.Goals as goal

pub returns-clause-is : goal.returns-clause-is
unfolding spelled
returns-clause-is c =
    let a = c.with_first.ensures in
    let b = c.with_brace.ensures in
    λ s. rw (a.closes_are, a.opens_are, a.front s, b.len_is, b.bytes_are, b.braces s) refl
