-- `numbers::constant::constant` meets its contract. Assumes nothing.
use Rattle.std.proofs.Common.{◌∙◌}
use Rattle.numbers.proofs.Constants.{fits_16, read_16, fits_2, read_2, read_8, read_10}
use Rattle.numbers.proofs.constant.constant.Goals as goal

pub slice_bounds-sized-count : goal.slice_bounds-sized-count
slice_bounds-sized-count c = fits_16 c.args.s.now c.begins_with.ensures c.if-begins_with.true

pub slice_bounds-sized-start : goal.slice_bounds-sized-start
slice_bounds-sized-start c = slice_bounds-sized-count c

pub returns-then-begins_with : goal.returns-then-begins_with
returns-then-begins_with c = c.sized.ensures ∙ read_16 _ c.begins_with.ensures c.if-begins_with.true

pub slice_bounds-sized-count-then-begins_binary : goal.slice_bounds-sized-count-then-begins_binary
slice_bounds-sized-count-then-begins_binary c = fits_2 c.args.s.now c.begins_with.ensures c.if-begins_with.false c.begins_binary.ensures c.if-begins_binary.true

pub slice_bounds-sized-start-then-begins_binary : goal.slice_bounds-sized-start-then-begins_binary
slice_bounds-sized-start-then-begins_binary c = slice_bounds-sized-count-then-begins_binary c

pub returns-then-begins_binary : goal.returns-then-begins_binary
returns-then-begins_binary c = c.sized-then-begins_binary.ensures ∙ read_2 _ c.begins_with.ensures c.if-begins_with.false c.begins_binary.ensures c.if-begins_binary.true

pub returns-then-starts : goal.returns-then-starts
returns-then-starts c =
    c.sized-then-starts.ensures ∙ read_8 _ c.begins_with.ensures c.if-begins_with.false c.begins_binary.ensures c.if-begins_binary.false c.starts.ensures c.if-starts.true

pub returns-else-starts : goal.returns-else-starts
returns-else-starts c =
    c.sized-else-starts.ensures ∙ read_10 _ c.begins_with.ensures c.if-begins_with.false c.begins_binary.ensures c.if-begins_binary.false c.starts.ensures c.if-starts.false
