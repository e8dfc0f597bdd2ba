-- What a word does to what is known so far, where several words do the same. Assumes nothing.
use Rattle.std.specs.Prelude.{ℕ, ◌+◌, min, Option, Some, eqb, if◌then◌else◌}
use Rattle.arguments.specs.declared.request.Problem.{Problem}
use Rattle.arguments.specs.declared.request.Request.{Request}

-- what is wrong, and the word by which it is told
abbrev pub with_fault : Problem → Option ℕ → Request → Request
with_fault problem word s = record s { fault = Some (record { problem = problem; word = word }) }

-- one operand more: word k; they are counted to 9
abbrev pub with_operand : ℕ → Request → Request
with_operand k s =
    record s {
      operands = record s.operands {
        count = min s.operands.count 8 + 1;
        first = if eqb s.operands.count 0 then Some k else s.operands.first;
        third = if eqb s.operands.count 2 then Some k else s.operands.third;
        last = Some k;
      };
    }
