-- `listing_text::showing::put_listing` meets its contract. Assumes nothing.
use Prim.Native.Nat.{◌+◌, ◌-◌, ◌<◌}
use native.Mathlib.Omega.{arith}
use mathlib.Core.Path.{◌≡◌, refl, sym, ◌∙◌}
use mathlib.Core.Bool.{false}
use lib.ListN.{length}
use borrow.Author.Rules.{rules}
use Rattle.listing_text.specs.Room.{page}
use Rattle.listing_text.specs.Showing.{shown_from, shown}
use Rattle.listing_text.proofs.Telling.{tells, ends_same, token-ends, told_over, told_refused, told_end, told-on, told-shows}
use Rattle.listing_text.proofs.showing.put_listing.Goals as goal

pub loop-init : goal.loop-init
unfolding shown
loop-init c =
    let all : length c.args.tape.now - 0 ≡ length c.args.tape.now = omega arith in
    record {
      rest = (λ i. tells (c.new-page.ensures.empty i) (shown_from c.args.exact (all i) c.args.tape.now 0 false));
      lent = refl;
    }

pub put_command-requires : goal.put_command-requires
put_command-requires c = token-ends c.args.tape.now c.loop.at _ _ _ c.in-Ok.advance.command c.in-Ok.ensures.result_value

pub returns-then-is_end : goal.returns-then-is_end
returns-then-is_end c =
    let a = c.args in
    let l = c.loop in
    let left : 0 < length a.tape.now - l.counter = omega arith in
    rw c.told.ensures
    (told-shows a.out.now (shown a.exact a.tape.now)
    (told_end _ a.exact a.tape.now l.at l.fresh (length a.tape.now - l.counter) left c.begun.ensures c.in-Ok.ensures.result_value c.put_command.ensures.adds
    (ends_same a.tape.now l.at c.in-Ok.advance.command ∙ sym c.is_end.ensures ∙ c.if-is_end.true)
    ∙ l.invariant.rest)
    (search rules) refl refl)

pub returns-in-Err : goal.returns-in-Err
returns-in-Err c =
    let a = c.args in
    let l = c.loop in
    let left : 0 < length a.tape.now - l.counter = omega arith in
    rw c.told-in-Err.ensures
    (told-shows a.out.now (shown a.exact a.tape.now)
    (told_refused _ a.exact a.tape.now l.at l.fresh (length a.tape.now - l.counter) left c.begun.ensures c.in-Err.ensures.result_value c.put_line_end.ensures.adds ∙ l.invariant.rest)
    (search rules) refl refl)

pub loop-preserved : goal.loop-preserved
loop-preserved c =
    let a = c.args in
    let l = c.loop in
    let left : 0 < length a.tape.now - l.counter = omega arith in
    let fewer : length a.tape.now - (l.counter + 1) ≡ length a.tape.now - l.counter - 1 = omega arith in
    record {
      rest = (λ i. tells (page c.put_command.new.out) (shown_from a.exact (fewer i) a.tape.now c.in-Ok.advance.next c.in-Ok.advance.totals.fresh))
          ∙ told-on _ a.exact a.tape.now l.at l.fresh (length a.tape.now - l.counter) left c.begun.ensures c.in-Ok.ensures.result_value c.put_command.ensures.adds
          (ends_same a.tape.now l.at c.in-Ok.advance.command ∙ sym c.is_end.ensures ∙ c.if-is_end.false)
          ∙ l.invariant.rest;
      lent = c.put_command.ensures.lent ∙ l.invariant.lent;
    }

pub returns : goal.returns
returns c =
    let a = c.args in
    let l = c.loop in
    let none : length a.tape.now - l.counter ≡ 0 = omega arith in
    rw c.told-2.ensures
    (told-shows a.out.now (shown a.exact a.tape.now)
    (told_over _ a.exact a.tape.now l.at l.fresh (length a.tape.now - l.counter) none ∙ l.invariant.rest)
    (search rules) (rw c.at.ensures) (rw c.at.ensures))
