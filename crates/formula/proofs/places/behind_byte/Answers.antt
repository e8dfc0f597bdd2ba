-- `formula::places::behind_byte` meets its contract. Assumes nothing.
use Rattle.std.proofs.Common.{◌<◌, arith, rules}
use Rattle.formula.proofs.Ahead.{byte_past, byte_other, byte_inside, byte_short, byte_differs, byte_more, byte_last}
use Rattle.formula.proofs.places.behind_byte.Goals as goal

pub returns-then-line-place : goal.returns-then-line-place
returns-then-line-place c = search (rules, byte_past)

pub returns-then-kind-ne-PUNCT : goal.returns-then-kind-ne-PUNCT
returns-then-kind-ne-PUNCT c = search (rules, byte_other)

pub bounds-s-place : goal.bounds-s-place
bounds-s-place c = search (rules, byte_inside)

pub returns-then-s-place : goal.returns-then-s-place
returns-then-s-place c = search (rules, byte_differs)

pub overflow_add-place : goal.overflow_add-place
overflow_add-place c =
    let h : c.args.place.byte < 65536 = search (rules, byte_short) in
    record { fits = omega (arith, h) }

pub returns-then-place-s : goal.returns-then-place-s
returns-then-place-s c = search (rules, byte_more)

pub returns : goal.returns
returns c = search (rules, byte_last)
