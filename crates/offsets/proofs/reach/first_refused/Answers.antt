-- `offsets::reach::first_refused` meets its contract. Assumes nothing.
use native.Mathlib.Omega.{arith}
use mathlib.Core.Path.{sym, ap, ◌∙◌}
use Rattle.tape.specs.Commands.{form_of}
use Rattle.tape.specs.Held.{first_where}
use Rattle.tape.specs.Walk.{left, shown}
use Rattle.tape.proofs.walk.Places.{first_here, first_later, first-none}
use Rattle.offsets.specs.Calls.{bad_for}
use Rattle.offsets.proofs.Searching.{bad_command, first-place}
use Rattle.offsets.specs.contracts.reach.first_refused as code
use denote.Param.{number}
use Rattle.offsets.proofs.reach.first_refused.Goals as goal

pub loop-c-init : goal.loop-c-init
loop-c-init g c = let test = bad_command (bad_for (code.BASED-type (number g.row.BASED)) c.args.base) in
    record { same = ap (first_where test) (rw c.into_iter-c-iterator.ensures.into_iter_gives c.new-c-items.ensures) }

pub returns-then-has_refused : goal.returns-then-has_refused
returns-then-has_refused g c = let b = code.BASED-type (number g.row.BASED) in
    let test = bad_command (bad_for b c.args.base) in
    let found = first_here test (shown c.in-Some.c) (left (form_of b) c.next.new.self) (sym c.has_refused.ensures ∙ c.if-has_refused.true) in
    sym (first-place (form_of b) (bad_for b c.args.base) c.args.tape.now c.requires.lines (λ i. omega (arith, c.type_inv.tape i)) c.requires.reads
    ∙ sym c.loop-c.invariant.same ∙ ap (first_where test) c.in-Some.ensures.steps ∙ found)

pub loop-c-preserved : goal.loop-c-preserved
loop-c-preserved g c = let b = code.BASED-type (number g.row.BASED) in
    let test = bad_command (bad_for b c.args.base) in
    let later = first_later test (shown c.in-Some.c) (left (form_of b) c.next.new.self) (sym c.has_refused.ensures ∙ c.if-has_refused.false) in
    record { same = sym later ∙ sym (ap (first_where test) c.in-Some.ensures.steps) ∙ c.loop-c.invariant.same }

pub returns : goal.returns
returns g c = let b = code.BASED-type (number g.row.BASED) in
    let test = bad_command (bad_for b c.args.base) in
    sym (first-place (form_of b) (bad_for b c.args.base) c.args.tape.now c.requires.lines (λ i. omega (arith, c.type_inv.tape i)) c.requires.reads
    ∙ sym c.loop-c.invariant.same ∙ ap (first_where test) c.in-None.ensures.steps.0 ∙ first-none test)
