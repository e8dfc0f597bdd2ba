-- `linefacts::transparent::name_number` meets its contract. Assumes nothing.
use native.Mathlib.Omega.{arith}
use borrow.Author.Rules.{rules}
use Rattle.lines.proofs.codes.Coding.{says, bucket-small}
use Rattle.linefacts.proofs.Making.{code_number, name_number}
use Rattle.linefacts.proofs.transparent.name_number.Goals as goal

pub overflow_add-result : goal.overflow_add-result
overflow_add-result c = omega (arith, bucket-small _ c.bucket.ensures)

pub returns-in-Some : goal.returns-in-Some
returns-in-Some c = let a = c.args in code_number (says _ _ a.w c.requires.0 c.code.ensures c.in-Some.is) (omega arith) (omega arith)

pub returns-in_default : goal.returns-in_default
returns-in_default c = search (rules, name_number)
