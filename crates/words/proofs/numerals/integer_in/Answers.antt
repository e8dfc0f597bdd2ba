-- `words::numerals::integer_in` meets its contract. Assumes nothing.
use Rattle.std.proofs.Common.{sym, ◌∙◌}
use Rattle.reference.specs.Text.{bytes}
use Rattle.laws.proofs.Scans.{if_here, if-there}
use Rattle.laws.proofs.Std.{prefix-std}
use Rattle.words.specs.Numerals.{integer_in}
use Rattle.words.proofs.numerals.integer_in.Goals as goal

pub returns-in-Some : goal.returns-in-Some
unfolding integer_in
returns-in-Some c =
    let e = c.in-Some.ensures.cases in
    if_here _ (sym (prefix-std c.args.word.now (bytes "-")) ∙ e.0) (rw e.1 at c.negative_in.ensures)

pub returns-in-None : goal.returns-in-None
unfolding integer_in
returns-in-None c = if-there _ (sym (prefix-std c.args.word.now (bytes "-")) ∙ c.in-None.ensures.cases) c.magnitude_in.ensures
