-- `tallies::addresses::is_held` meets its contract. Assumes nothing.
use mathlib.Core.Path.{◌≡◌, sym, ap, ◌∙◌}
use mathlib.Core.Option.{some}
use Rattle.std.proofs.Common.{◌∷◌, []}
use Rattle.reference.specs.Options.{option_of}
use Rattle.reference.specs.Spans.{Span}
use Rattle.reference.specs.Tape.{old, new_line, marked}
use Rattle.tape.specs.Held.{commands, places, unplaced}
use Rattle.tape.specs.Walk.{event_shown, left}
use Rattle.tallies.specs.Counting.{holds, is_held}
use Rattle.laws.proofs.Scans.{and_true, and_false}
use Rattle.tallies.proofs.Holding.{Found, found_begins, found_line, found_stops, found_marks, found_ends}
use Rattle.tallies.proofs.addresses.is_held.Goals as goal

pub loop-c-init : goal.loop-c-init
loop-c-init c =
    let s : Span = record { lowest = c.args.low; highest = c.args.high } in
    let e : left old c.into_iter-c-iterator.result ≡ places c.args.tape.now = rw c.into_iter-c-iterator.ensures.into_iter_gives c.new-c-items.ensures in
    rw e (found_begins s (commands c.args.tape.now))

pub returns-then-holds : goal.returns-then-holds
returns-then-holds c =
    let more = unplaced (left old c.next.new.self) in
    let s : Span = record { lowest = c.args.low; highest = c.args.high } in
    let k : unplaced (left old c.loop-c.c-iterator) ≡ new_line (option_of c.in-Line.address) c.in-Line.indent ∷ more
    = ap unplaced c.in-Some.ensures.steps ∙ ap (λ e. event_shown e ∷ more) c.in-Line.is in
    let f : Found s (is_held c.args.tape.now s) c.loop-c.begun c.loop-c.holds (new_line (option_of c.in-Line.address) c.in-Line.indent ∷ more)
    = rw (sym k) c.loop-c.invariant in
    found_stops f c.if-holds.true

pub loop-c-preserved-in-Line : goal.loop-c-preserved-in-Line
loop-c-preserved-in-Line c =
    let more = unplaced (left old c.next.new.self) in
    let s : Span = record { lowest = c.args.low; highest = c.args.high } in
    let k : unplaced (left old c.loop-c.c-iterator) ≡ new_line (option_of c.in-Line.address) c.in-Line.indent ∷ more
    = ap unplaced c.in-Some.ensures.steps ∙ ap (λ e. event_shown e ∷ more) c.in-Line.is in
    let f : Found s (is_held c.args.tape.now s) c.loop-c.begun c.loop-c.holds (new_line (option_of c.in-Line.address) c.in-Line.indent ∷ more)
    = rw (sym k) c.loop-c.invariant in
    found_line f c.if-holds.false

pub loop-c-preserved-then-begun : goal.loop-c-preserved-then-begun
loop-c-preserved-then-begun c =
    let more = unplaced (left old c.next.new.self) in
    let s : Span = record { lowest = c.args.low; highest = c.args.high } in
    let m : Span = record { lowest = c.in-Marks.lowest; highest = c.in-Marks.highest } in
    let k : unplaced (left old c.loop-c.c-iterator) ≡ marked m ∷ more
    = ap unplaced c.in-Some.ensures.steps ∙ ap (λ e. event_shown e ∷ more) c.in-Marks.is in
    let f : Found s (is_held c.args.tape.now s) c.loop-c.begun c.loop-c.holds (marked m ∷ more) = rw (sym k) c.loop-c.invariant in
    found_marks f (c.is_within-holds.ensures ∙ sym (and_true (holds s (some m)) c.if-begun.true))

pub loop-c-preserved-else-begun : goal.loop-c-preserved-else-begun
loop-c-preserved-else-begun c =
    let more = unplaced (left old c.next.new.self) in
    let s : Span = record { lowest = c.args.low; highest = c.args.high } in
    let m : Span = record { lowest = c.in-Marks.lowest; highest = c.in-Marks.highest } in
    let k : unplaced (left old c.loop-c.c-iterator) ≡ marked m ∷ more
    = ap unplaced c.in-Some.ensures.steps ∙ ap (λ e. event_shown e ∷ more) c.in-Marks.is in
    let f : Found s (is_held c.args.tape.now s) c.loop-c.begun c.loop-c.holds (marked m ∷ more) = rw (sym k) c.loop-c.invariant in
    found_marks f (c.if-begun.false ∙ sym (and_false (holds s (some m)) c.if-begun.false))

pub returns : goal.returns
returns c =
    let s : Span = record { lowest = c.args.low; highest = c.args.high } in
    let f : Found s (is_held c.args.tape.now s) c.loop-c.begun c.loop-c.holds []
    = rw (sym (ap unplaced c.in-None.ensures.steps.0)) c.loop-c.invariant in
    found_ends f
