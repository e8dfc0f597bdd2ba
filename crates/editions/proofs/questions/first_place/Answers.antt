-- `editions::questions::first_place` meets its contract. Assumes nothing.
use native.Mathlib.Omega.{arith}
use mathlib.Core.Path.{sym, ap, ◌∙◌}
use Rattle.reference.specs.Tape.{old}
use Rattle.tape.specs.Held.{first_where}
use Rattle.tape.specs.Walk.{left, shown}
use Rattle.tape.proofs.walk.Places.{first_here, first_later, first-none}
use Rattle.editions.proofs.Asking.{earning, leftmost_is}
use Rattle.editions.specs.contracts.questions.first_place as code
use denote.Param.{number}
use Rattle.editions.proofs.questions.first_place.Goals as goal

pub loop-c-init : goal.loop-c-init
loop-c-init g c = let test = earning (code.UP-type (number g.row.UP)) in
    record { same = ap (first_where test) (rw c.into_iter-c-iterator.ensures.into_iter_gives c.new-c-items.ensures) }

pub returns-then-command_earns : goal.returns-then-command_earns
returns-then-command_earns g c = let up = code.UP-type (number g.row.UP) in
    let found = first_here (earning up) (shown c.in-Some.c) (left old c.next.new.self) (sym c.command_earns.ensures ∙ c.if-command_earns.true) in
    sym (leftmost_is up c.args.tape.now c.requires.listing (λ i. omega (arith, c.type_inv.tape i)) c.requires.reads
    ∙ sym c.loop-c.invariant.same ∙ ap (first_where (earning up)) c.in-Some.ensures.steps ∙ found)

pub loop-c-preserved : goal.loop-c-preserved
loop-c-preserved g c = let test = earning (code.UP-type (number g.row.UP)) in
    let later = first_later test (shown c.in-Some.c) (left old c.next.new.self) (sym c.command_earns.ensures ∙ c.if-command_earns.false) in
    record { same = sym later ∙ sym (ap (first_where test) c.in-Some.ensures.steps) ∙ c.loop-c.invariant.same }

pub returns : goal.returns
returns g c = let up = code.UP-type (number g.row.UP) in
    sym (leftmost_is up c.args.tape.now c.requires.listing (λ i. omega (arith, c.type_inv.tape i)) c.requires.reads
    ∙ sym c.loop-c.invariant.same ∙ ap (first_where (earning up)) c.in-None.ensures.steps.0 ∙ first-none (earning up))
