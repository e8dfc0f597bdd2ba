-- `offsets::front::asked` meets its contract. Assumes nothing.
use lib.ListN.{get_or}
use mathlib.Core.Path.{sym, ◌∙◌}
use Rattle.reference.specs.Control.{when◌then◌else◌}
use Rattle.tape.specs.Questions.{first_no}
use Rattle.offsets.specs.Offsets.{begins_with_06, has_base}
use Rattle.offsets.proofs.Answering.{no_first_byte}
use borrow.Author.Tests.{eqb-true, eq-eqb, ne_eqb, lt-leb, le-leb}
use Rattle.offsets.proofs.front.asked.Goals as goal
use Rattle.offsets.proofs.front.asked.Goals.{then-is_empty-via-then-is_empty, then-is_empty-via-else-is_empty+then-tape-ne6}

pub returns-then-is_empty : goal.returns-then-is_empty
unfolding first_no when◌then◌else◌
returns-then-is_empty c =
    elim c.then-is_empty.branch [
      | then-is_empty-via-then-is_empty w ↦ rw (no_first_byte c.args.tape.now (eqb-true _ _ (sym c.is_empty.ensures ∙ w.if-is_empty.true)))
      | then-is_empty-via-else-is_empty+then-tape-ne6 w ↦ (
          unfold begins_with_06 in rw (ne_eqb (get_or c.args.tape.now 0 0) 6 w.if-tape-ne6.true))
    ]

pub returns-then-tape-lt9 : goal.returns-then-tape-lt9
unfolding first_no begins_with_06 has_base when◌then◌else◌
returns-then-tape-lt9 c = let tape = c.args.tape.now in
    rw (eq-eqb (get_or tape 0 0) 6 c.if-tape-ne6.false, lt-leb 9 _ c.if-tape-lt9.true)

pub returns : goal.returns
unfolding first_no begins_with_06 has_base when◌then◌else◌
returns c = let tape = c.args.tape.now in
    rw (eq-eqb (get_or tape 0 0) 6 c.if-tape-ne6.false, le-leb 9 _ c.if-tape-lt9.false)
