-- `test_leaves::fields::behind` meets its contract. Assumes nothing.
use Prim.Native.Nat.{◌+◌}
use mathlib.Core.Path.{sym, ◌∙◌}
use lib.ListN.{drop_of_length-le}
use native.Mathlib.Omega.{arith}
use Rattle.laws.proofs.Parts.{to_end}
use Rattle.test_leaves.proofs.Separators.{before-length, drop-before, place_is}
use Rattle.test_leaves.proofs.fields.behind.Goals as goal

pub overflow_add-count_before : goal.overflow_add-count_before
overflow_add-count_before c =
    let a = c.args in
    omega (arith, (c.count_before.ensures ∙ sym (place_is a.s.now a.b)), before-length a.b a.s.now)

pub returns-in-Some : goal.returns-in-Some
returns-in-Some c =
    let a = c.args in
    let n = c.count_before.ensures ∙ sym (place_is a.s.now a.b) in
    c.in-Some.ensures.lookup.0.2 ∙ to_end _ a.s.now ∙ rw n (drop-before a.b a.s.now)

pub returns-in-None : goal.returns-in-None
returns-in-None c =
    let a = c.args in
    let n = c.count_before.ensures ∙ sym (place_is a.s.now a.b) in
    let short = c.in-None.ensures.lookup in
    sym (drop_of_length-le a.s.now {i = c.count_before.result + 1} (omega (arith, short))) ∙ rw n (drop-before a.b a.s.now)
