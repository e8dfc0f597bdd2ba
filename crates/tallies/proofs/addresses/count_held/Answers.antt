-- `tallies::addresses::count_held` meets its contract. Assumes nothing.
use native.Mathlib.Omega.{arith}
use mathlib.Core.Path.{◌≡◌, ap, ◌∙◌}
use Rattle.std.proofs.Common.{◌∷◌}
use Rattle.reference.specs.Options.{option_of}
use Rattle.reference.specs.Spans.{Span}
use Rattle.reference.specs.Tape.{old, new_line}
use Rattle.tape.specs.Held.{unplaced}
use Rattle.tape.specs.Walk.{event_shown, left}
use Rattle.tallies.specs.Counting.{spans_in}
use Rattle.tallies.proofs.Holding.{counted_fits, counted_next, spans_fit}
use Rattle.tallies.proofs.addresses.count_held.Goals as goal

pub with-requires-clause-all_fits : goal.with-requires-clause-all_fits
with-requires-clause-all_fits c =
    let more = unplaced (left old c.next.new.self) in
    let s : Span = record { lowest = c.in-Some-address.a; highest = c.in-Some-address.a } in
    let k : spans_in (unplaced (left old c.loop-c.c-iterator)) ≡ s ∷ spans_in more
    = ap (λ ps. spans_in (unplaced ps)) c.in-Some.ensures.steps ∙ ap (λ e. spans_in (event_shown e ∷ more)) c.in-Line.is
    ∙ ap (λ o. spans_in (new_line (option_of o) c.in-Line.indent ∷ more)) c.in-Some-address.is in
    omega (arith, counted_fits s more c.loop-c.invariant k, spans_fit c.args.raw.now)

pub with-requires-clause-held_fits : goal.with-requires-clause-held_fits
with-requires-clause-held_fits c =
    let more = unplaced (left old c.next.new.self) in
    let s : Span = record { lowest = c.in-Some-address.a; highest = c.in-Some-address.a } in
    let k : spans_in (unplaced (left old c.loop-c.c-iterator)) ≡ s ∷ spans_in more
    = ap (λ ps. spans_in (unplaced ps)) c.in-Some.ensures.steps ∙ ap (λ e. spans_in (event_shown e ∷ more)) c.in-Line.is
    ∙ ap (λ o. spans_in (new_line (option_of o) c.in-Line.indent ∷ more)) c.in-Some-address.is in
    omega (arith, counted_fits s more c.loop-c.invariant k, spans_fit c.args.raw.now, c.loop-c.invariant.most)

pub with-so_far-requires-clause-all_fits : goal.with-so_far-requires-clause-all_fits
with-so_far-requires-clause-all_fits c =
    let more = unplaced (left old c.next.new.self) in
    let s : Span = record { lowest = c.in-Marks.low; highest = c.in-Marks.high } in
    let k : spans_in (unplaced (left old c.loop-c.c-iterator)) ≡ s ∷ spans_in more
    = ap (λ ps. spans_in (unplaced ps)) c.in-Some.ensures.steps ∙ ap (λ e. spans_in (event_shown e ∷ more)) c.in-Marks.is in
    omega (arith, counted_fits s more c.loop-c.invariant k, spans_fit c.args.raw.now)

pub with-so_far-requires-clause-held_fits : goal.with-so_far-requires-clause-held_fits
with-so_far-requires-clause-held_fits c =
    let more = unplaced (left old c.next.new.self) in
    let s : Span = record { lowest = c.in-Marks.low; highest = c.in-Marks.high } in
    let k : spans_in (unplaced (left old c.loop-c.c-iterator)) ≡ s ∷ spans_in more
    = ap (λ ps. spans_in (unplaced ps)) c.in-Some.ensures.steps ∙ ap (λ e. spans_in (event_shown e ∷ more)) c.in-Marks.is in
    omega (arith, counted_fits s more c.loop-c.invariant k, spans_fit c.args.raw.now, c.loop-c.invariant.most)

pub loop-c-preserved-in-Some-address : goal.loop-c-preserved-in-Some-address
loop-c-preserved-in-Some-address c =
    let more = unplaced (left old c.next.new.self) in
    let s : Span = record { lowest = c.in-Some-address.a; highest = c.in-Some-address.a } in
    let k : spans_in (unplaced (left old c.loop-c.c-iterator)) ≡ s ∷ spans_in more
    = ap (λ ps. spans_in (unplaced ps)) c.in-Some.ensures.steps ∙ ap (λ e. spans_in (event_shown e ∷ more)) c.in-Line.is
    ∙ ap (λ o. spans_in (new_line (option_of o) c.in-Line.indent ∷ more)) c.in-Some-address.is in
    counted_next s more c.loop-c.invariant k c.with.ensures.all c.with.ensures.held

pub loop-c-preserved-in-Marks : goal.loop-c-preserved-in-Marks
loop-c-preserved-in-Marks c =
    let more = unplaced (left old c.next.new.self) in
    let s : Span = record { lowest = c.in-Marks.low; highest = c.in-Marks.high } in
    let k : spans_in (unplaced (left old c.loop-c.c-iterator)) ≡ s ∷ spans_in more
    = ap (λ ps. spans_in (unplaced ps)) c.in-Some.ensures.steps ∙ ap (λ e. spans_in (event_shown e ∷ more)) c.in-Marks.is in
    counted_next s more c.loop-c.invariant k c.with-so_far.ensures.all c.with-so_far.ensures.held
