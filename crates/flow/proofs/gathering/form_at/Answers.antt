-- `flow::gathering::form_at` meets its contract. Assumes nothing.
use native.Mathlib.Omega.{arith}
use lib.ListN.{get_or, drop}
use Rattle.std.proofs.lemmas.List.{length-take}
use Rattle.lines.specs.Lines.{first_of, count_of}
use Rattle.lines.proofs.words.Lines.{count-below}
use Rattle.flow.proofs.gathering.form_at.Goals as goal

pub line_form-requires : goal.line_form-requires
line_form-requires c =
    let h = c.args.listing.now in
    let l = get_or h.lines.now c.args.k 0 in
    let few = length-take (count_of l) (drop (first_of l) h.tokens.now) in
    rw c.line_of-line.ensures ((c.requires.0.at c.args.k c.requires.1).holds, omega (arith, few, count-below l))
