-- `flow::forms::with_sign` meets its contract. Assumes nothing.
use borrow.Author.Rules.{rules}
use mathlib.Core.Path.{refl}
use Rattle.flow.proofs.Spelled.{a_sign, no_sign}
use Rattle.flow.proofs.forms.with_sign.Goals as goal

pub returns-then-has_byte-clause-is : goal.returns-then-has_byte-clause-is
returns-then-has_byte-clause-is c = λ more. rw (a_sign c.args.b c.has_byte.ensures (search rules)) (c.with_byte.ensures.is more)

pub returns-clause-is : goal.returns-clause-is
returns-clause-is c = λ more. rw (no_sign c.args.b c.has_byte.ensures (search rules)) refl
