-- `flow::between::past_call` meets its contract. Assumes nothing.
use native.Mathlib.Numerals.{add-one}
use Rattle.ground.specs.Rules.{rules_of}
use Rattle.lines.specs.Texts.{bare_listing}
use Rattle.flow.proofs.Ranging.{past_none, past_some}
use Rattle.flow.proofs.between.past_call.Goals as goal

pub returns-then-not-is_volatile : goal.returns-then-not-is_volatile
returns-then-not-is_volatile c = λ n expr e.
    past_none (rules_of c.args.rules) (bare_listing c.args.listing.now) c.args.i n expr c.args.last e c.is_volatile.ensures c.if-not-is_volatile.true

pub returns : goal.returns
returns c = λ n expr e.
    past_some (rules_of c.args.rules) (bare_listing c.args.listing.now) c.args.i n expr c.args.last e c.is_volatile.ensures c.if-not-is_volatile.false
    (rw add-one at c.has_call.ensures)
