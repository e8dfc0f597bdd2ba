-- `formula::terms::is_tidy` meets its contract. Assumes nothing.
use Rattle.reference.specs.Text.{bytes}
use Rattle.laws.proofs.Std.{prefix-std}
use Rattle.formula.proofs.Worthy.{tidy_plus, tidy_minuses, tidy_minus, tidy_plain}
use Rattle.std.proofs.Common.{rules}
use native.Mathlib.Omega.{arith}
use Rattle.formula.proofs.terms.is_tidy.Goals as goal

pub returns-then-has_byte : goal.returns-then-has_byte
returns-then-has_byte c = search (rules, tidy_plus, tidy_minuses, tidy_minus, tidy_plain)

pub returns-then-count_byte-gt1 : goal.returns-then-count_byte-gt1
returns-then-count_byte-gt1 c = search (rules, tidy_plus, tidy_minuses, tidy_minus, tidy_plain)

pub returns-in-Some : goal.returns-in-Some
returns-in-Some c =
    let s = c.args.s.now in
    let e = c.in-Some.ensures.cases in
    tidy_minus s c.has_byte.ensures c.if-has_byte.false c.count_byte.ensures (omega (arith, c.if-count_byte-gt1.false)) (prefix-std s (bytes "-")) e.0 e.1 c.is_plain.ensures

pub returns-in-None : goal.returns-in-None
returns-in-None c =
    let s = c.args.s.now in
    tidy_plain s c.has_byte.ensures c.if-has_byte.false c.count_byte.ensures (omega (arith, c.if-count_byte-gt1.false)) (prefix-std s (bytes "-")) c.in-None.ensures.cases
    c.is_plain-in-None.ensures
