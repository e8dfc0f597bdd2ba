-- `tallies::addresses::first_addressed` meets its contract. Assumes nothing.
use native.Mathlib.Omega.{arith}
use mathlib.Core.Path.{sym, ap, ◌∙◌}
use Rattle.std.proofs.Common.{◌≡◌, ◌∷◌}
use Rattle.reference.specs.Options.{option_of}
use Rattle.reference.specs.Tape.{old, new_line}
use Rattle.tape.specs.Held.{commands, lines_of, places, tokens_of, unplaced}
use Rattle.tape.specs.Walk.{event_shown, left}
use Rattle.tape.proofs.walk.Spending.{bytes_of, few}
use Rattle.tallies.proofs.Addressing.{some_shown, first_from, none_before, first_none, first_is, first_later}
use Rattle.tallies.proofs.addresses.first_addressed.Goals as goal

pub loop-c-init : goal.loop-c-init
loop-c-init c =
    let e : left old c.into_iter-c-iterator.result ≡ places c.args.tape.now = rw c.into_iter-c-iterator.ensures.into_iter_gives c.new-c-items.ensures in
    record {
      told = ap (λ ps. first_from 0 (lines_of (unplaced ps))) e ∙ none_before (lines_of (commands c.args.tape.now));
      few = rw e (omega (arith, few c.args.tape.now));
    }

pub returns-then-is_some : goal.returns-then-is_some
returns-then-is_some c =
    let more = unplaced (left old c.next.new.self) in
    let k : unplaced (left old c.loop-c.c-iterator) ≡ new_line (option_of c.in-Line.address) c.in-Line.indent ∷ more
    = ap unplaced c.in-Some.ensures.steps ∙ ap (λ e. event_shown e ∷ more) c.in-Line.is in
    sym (first_is c.loop-c.n (record { address = option_of c.in-Line.address; indent = c.in-Line.indent; tokens = tokens_of more }) (lines_of more)
    (sym (some_shown c.in-Line.address) ∙ sym c.is_some.ensures ∙ c.if-is_some.true))
    ∙ sym (ap (λ cs. first_from c.loop-c.n (lines_of cs)) k) ∙ c.loop-c.invariant.told

pub loop-c-preserved-in-Line : goal.loop-c-preserved-in-Line
loop-c-preserved-in-Line c =
    let more = unplaced (left old c.next.new.self) in
    let k : unplaced (left old c.loop-c.c-iterator) ≡ new_line (option_of c.in-Line.address) c.in-Line.indent ∷ more
    = ap unplaced c.in-Some.ensures.steps ∙ ap (λ e. event_shown e ∷ more) c.in-Line.is in
    record {
      told = sym (first_later c.loop-c.n (record { address = option_of c.in-Line.address; indent = c.in-Line.indent; tokens = tokens_of more }) (lines_of more)
          (sym (some_shown c.in-Line.address) ∙ sym c.is_some.ensures ∙ c.if-is_some.false))
          ∙ sym (ap (λ cs. first_from c.loop-c.n (lines_of cs)) k) ∙ c.loop-c.invariant.told;
      few = omega (arith, c.loop-c.invariant.few, ap bytes_of k);
    }

pub returns : goal.returns
returns c =
    first_none c.loop-c.n ∙ sym (ap (λ ps. first_from c.loop-c.n (lines_of (unplaced ps))) c.in-None.ensures.steps.0) ∙ c.loop-c.invariant.told
