-- `flow::spelling::with_brace` meets its contract. Assumes nothing.
use native.Mathlib.Omega.{arith}
use mathlib.Core.Path.{refl}
use Rattle.flow.proofs.Unmatched.{open_more, close_more, close_partner, no_brace}
use Rattle.flow.proofs.spelling.with_brace.Goals as goal

pub returns-then-b-eq123 : goal.returns-then-b-eq123
returns-then-b-eq123 c =
    let f = c.args.f in
    record { braces = λ s. rw c.if-b-eq123.true (open_more f.closes f.opens s); few = omega arith; len_is = refl; bytes_are = refl }

pub returns-then-b-ne125 : goal.returns-then-b-ne125
returns-then-b-ne125 c =
    let f = c.args.f in
    record { braces = λ s. no_brace f.closes f.opens s c.args.b c.if-b-eq123.false c.if-b-ne125.true; few = omega arith; len_is = refl; bytes_are = refl }

pub returns-then-f-eq0 : goal.returns-then-f-eq0
returns-then-f-eq0 c =
    let f = c.args.f in
    record { braces = λ s. rw c.if-b-ne125.false (close_more f.closes f.opens s c.if-f-eq0.true); few = omega arith; len_is = refl; bytes_are = refl }

pub returns : goal.returns
returns c =
    let f = c.args.f in
    record { braces = λ s. rw c.if-b-ne125.false (close_partner f.closes f.opens s c.if-f-eq0.false); few = omega arith; len_is = refl; bytes_are = refl }
