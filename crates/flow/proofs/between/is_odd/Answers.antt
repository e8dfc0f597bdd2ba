-- `flow::between::is_odd` meets its contract. Assumes nothing.
use native.Mathlib.Numerals.{add-one}
use Rattle.lines.specs.Texts.{bare_listing}
use Rattle.flow.proofs.Ranging.{odd_entered, odd_dark, odd_hanging}
use Rattle.flow.proofs.between.is_odd.Goals as goal

pub returns-then-has_entry : goal.returns-then-has_entry
returns-then-has_entry c = λ rules f expr.
    odd_entered rules (bare_listing c.args.g.now.listing) c.args.i f expr c.args.last (rw (add-one c.args.i, add-one c.args.last) at c.has_entry.ensures) c.if-has_entry.true

pub returns-then-has_dark : goal.returns-then-has_dark
returns-then-has_dark c = λ rules f expr.
    odd_dark rules (bare_listing c.args.g.now.listing) c.args.i f expr c.args.last (rw (add-one c.args.i, add-one c.args.last) at c.has_entry.ensures) c.if-has_entry.false
    (rw (add-one c.args.last) at c.has_dark.ensures) c.if-has_dark.true

pub returns : goal.returns
returns c = λ rules f expr.
    odd_hanging rules (bare_listing c.args.g.now.listing) c.args.i f expr c.args.last (rw (add-one c.args.i, add-one c.args.last) at c.has_entry.ensures) c.if-has_entry.false
    (rw (add-one c.args.last) at c.has_dark.ensures) c.if-has_dark.false c.hangs.ensures
