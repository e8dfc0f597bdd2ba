-- `tape::questions::token_fits` meets its contract. Assumes nothing.
use mathlib.Core.Path.{sym, ◌∙◌}
use native.Mathlib.Omega.{arith}
use lib.ListN.{length}
use borrow.Author.Tests.{le-leb, lt-leb, eq-eqb, ne_eqb, eqb-true}
use Rattle.std.proofs.lemmas.Bool.{eqb-false}
use Rattle.reference.specs.Control.{not, ◌and◌, ◌or◌}
use Rattle.reference.specs.Listing.{is}
use Rattle.reference.specs.Questions.{is_within}
use Rattle.tape.proofs.questions.token_fits.Goals as goal

pub returns-then-kind-ne-NUMBER : goal.returns-then-kind-ne-NUMBER
unfolding is_within is not ◌and◌ ◌or◌
returns-then-kind-ne-NUMBER c =
    let filled = eqb-false (length c.args.text.now) 0 (sym c.is_empty.ensures ∙ c.if-not-is_empty.true) in
    rw (le-leb 1 (length c.args.text.now) (omega (arith, filled)), ne_eqb c.args.kind 2 c.if-kind-ne-NUMBER.true)

pub returns-else-kind-ne-NUMBER : goal.returns-else-kind-ne-NUMBER
unfolding is_within is not ◌and◌ ◌or◌
returns-else-kind-ne-NUMBER c =
    let filled = eqb-false (length c.args.text.now) 0 (sym c.is_empty.ensures ∙ c.if-not-is_empty.true) in
    rw (le-leb 1 (length c.args.text.now) (omega (arith, filled)), eq-eqb c.args.kind 2 c.if-kind-ne-NUMBER.false)

pub returns-else-not-is_empty : goal.returns-else-not-is_empty
unfolding is_within ◌and◌
returns-else-not-is_empty c =
    let empty = eqb-true (length c.args.text.now) 0 (sym c.is_empty.ensures ∙ c.if-not-is_empty.false) in
    rw (c.if-not-is_empty.false, lt-leb 1 (length c.args.text.now) (omega (arith, empty)))
