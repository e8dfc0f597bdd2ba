-- `clean::asking::asked` meets its contract. Assumes nothing.
use borrow.Author.Tests.{le-leb, lt-leb}
use Rattle.reference.specs.Control.{◌and◌, when◌then◌else◌}
use Rattle.reference.specs.Questions.{is_convention, is_edition}
use Rattle.tape.specs.Questions.{first_no}
use Rattle.clean.proofs.asking.asked.Goals as goal
use Rattle.clean.proofs.asking.asked.Goals.{then-work_a-lt49152-via-then-work_a-lt49152}
use Rattle.clean.proofs.asking.asked.Goals.{then-work_a-lt49152-via-else-work_a-lt49152+then-work_b-lt49152}
use Rattle.clean.proofs.asking.asked.Goals.{then-work_a-lt49152-via-else-work_a-lt49152+else-work_b-lt49152+then-output-least}

pub returns-then-rules-gt2 : goal.returns-then-rules-gt2
unfolding first_no is_convention when◌then◌else◌
returns-then-rules-gt2 c = rw (lt-leb _ _ c.if-rules-gt2.true)

pub returns-then-rules-gt1 : goal.returns-then-rules-gt1
unfolding first_no is_convention is_edition when◌then◌else◌
returns-then-rules-gt1 c = rw (le-leb _ _ c.if-rules-gt2.false, lt-leb _ _ c.if-rules-gt1.true)

pub returns-then-work_a-lt49152 : goal.returns-then-work_a-lt49152
unfolding first_no is_convention is_edition ◌and◌ when◌then◌else◌
returns-then-work_a-lt49152 c =
    rw (le-leb _ _ c.if-rules-gt2.false, le-leb _ _ c.if-rules-gt1.false)
    (elim c.then-work_a-lt49152.branch [
      | then-work_a-lt49152-via-then-work_a-lt49152 w ↦ rw (lt-leb _ _ w.if-work_a-lt49152.true)
      | then-work_a-lt49152-via-else-work_a-lt49152+then-work_b-lt49152 w ↦ rw (le-leb _ _ w.if-work_a-lt49152.false, lt-leb _ _ w.if-work_b-lt49152.true)
      | then-work_a-lt49152-via-else-work_a-lt49152+else-work_b-lt49152+then-output-least w ↦
          rw (le-leb _ _ w.if-work_a-lt49152.false, le-leb _ _ w.if-work_b-lt49152.false, lt-leb _ _ w.if-output-least.true)
    ])

pub returns : goal.returns
unfolding first_no is_convention is_edition ◌and◌ when◌then◌else◌
returns c =
    rw (
      le-leb _ _ c.if-rules-gt2.false,
      le-leb _ _ c.if-rules-gt1.false,
      le-leb _ _ c.if-work_a-lt49152.false,
      le-leb _ _ c.if-work_b-lt49152.false,
      le-leb _ _ c.if-output-least.false,
    )
