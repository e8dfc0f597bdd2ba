-- `listing_text::fields::span_of` meets its contract. Assumes nothing.
use Rattle.laws.proofs.Parts.{to_end}
use Rattle.listing_text.proofs.Fielding.{span_short, span_undotted, span_no_low, span_no_high, span_right}
use Rattle.listing_text.proofs.fields.span_of.Goals as goal
use Rattle.listing_text.proofs.fields.span_of.Goals.{then-span-ne34-via-then-span-ne34, then-span-ne34-via-else-span-ne34+then-not-same}

pub returns-then-span-ne34 : goal.returns-then-span-ne34
returns-then-span-ne34 c = elim c.then-span-ne34.branch [
  | then-span-ne34-via-then-span-ne34 w ↦ span_short c.args.span.now w.if-span-ne34.true
  | then-span-ne34-via-else-span-ne34+then-not-same w ↦ span_undotted c.args.span.now w.if-span-ne34.false w.same.ensures w.if-not-same.true
]

pub returns-in_err-low : goal.returns-in_err-low
returns-in_err-low c =
    rw c.from_residual.ensures (span_no_low c.args.span.now c.if-span-ne34.false c.same.ensures c.if-not-same.false c.in_err-low.ensures)

pub returns-in_err-high : goal.returns-in_err-high
returns-in_err-high c =
    rw c.from_residual-in_err-high.ensures
    (span_no_high c.args.span.now c.if-span-ne34.false c.same.ensures c.if-not-same.false c.in_ok-low.ensures (rw (to_end 18 c.args.span.now) at c.in_err-high.ensures))

pub returns : goal.returns
returns c =
    span_right c.args.span.now c.if-span-ne34.false c.same.ensures c.if-not-same.false c.in_ok-low.ensures (rw (to_end 18 c.args.span.now) at c.in_ok-high.ensures)
