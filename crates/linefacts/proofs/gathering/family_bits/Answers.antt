-- `linefacts::gathering::family_bits` meets its contract. Assumes nothing.
use native.Mathlib.Omega.{arith}
use Rattle.lines.proofs.codes.Coding.{says}
use Rattle.linefacts.proofs.Tokens.{all_bits, shift_fits, one_family}
use mathlib.Core.Path.{refl}
use Rattle.linefacts.proofs.gathering.family_bits.Goals as goal

pub overflow_sub-result : goal.overflow_sub-result
overflow_sub-result c = let a = c.args in let q = says _ _ a.w c.requires.0 c.code.ensures c.in-Some.is in omega (arith, q.least)

pub overflow_shl-result : goal.overflow_shl-result
overflow_shl-result c = let a = c.args in let q = says _ _ a.w c.requires.0 c.code.ensures c.in-Some.is in shift_fits c.requires.0 c.requires.1 q

pub returns-in-Some : goal.returns-in-Some
returns-in-Some c = let a = c.args in let q = says _ _ a.w c.requires.0 c.code.ensures c.in-Some.is in one_family c.requires.0 c.requires.1 q refl

pub returns-in-None : goal.returns-in-None
returns-in-None c = all_bits c.requires.0 c.requires.1
