-- What the call answers, and every lent byte afterwards. Assumes nothing.
use Rattle.std.specs.Prelude.{ℕ, suc, ◌+◌, ◌*◌, ◌<◌, ◌≤◌, ◌≡◌, List, ◌++◌, length, get_or, drop, replicate}
use Rattle.reference.specs.Control.{let_some◌else◌then◌}
use Rattle.reference.specs.Listing.{Listing}
use Rattle.reference.specs.Rules.{Rules}
use Rattle.reference.specs.Run.{finished}
use Rattle.reference.specs.Reply.{reply}
use Rattle.reference.specs.Questions as Q
use Rattle.reference.specs.Questions.{WORK, Answer, Refused, Passed, ask, let_passed◌then◌, read}
use Rattle.answers.specs.Answers.{output_after}
use Rattle.clean.specs.Asking.{before_the_tape}
use Rattle.clean.specs.Replies.{outside}
use Rattle.cautions.specs.Cautions.{finished_cautions, caution_bytes, Kept, NothingLost, Quiet, InOrder, Unwarned}

-- what its output has at least: two bytes for each of 256 lines
abbrev pub OUTPUT : ℕ
OUTPUT = 512

-- A refusal, as the cleaning of the tape gives it but for the length of the output; or for each finished line the set of the kinds for
-- which it may mean something else, in two bytes, the low byte first.
unfoldable pub cautions_reply : Rules → List ℕ → ℕ → ℕ → ℕ → Answer (List ℕ)
cautions_reply rules tape work_a work_b output =
    ask (λ number. 0) (before_the_tape rules work_a work_b output OUTPUT)
    (let_passed (read tape) then λ lines.
    let_some (outside rules lines) else Passed (caution_bytes (finished_cautions rules lines)) then λ n. Refused 14 n)

-- whether an answer is a refusal, and which
abbrev pub verdict : {A : Type 0} → Answer A → Answer (Unit {0})
verdict (Refused number place) = Refused number place
verdict (Passed a) = Passed tt

-- where the output is long enough for the cleaned tape too, the cleaning is refused as this call is
abbrev pub RefusedAlike : Rules → List ℕ → ℕ → ℕ → ℕ → Type 0
RefusedAlike rules tape work_a work_b output =
    Q.OUTPUT ≤ output → verdict (cautions_reply rules tape work_a work_b output) ≡ verdict (reply rules tape work_a work_b output)

-- A refusal changes nothing lent. Otherwise the first 49,152 bytes of a work area are zero, the rest as before.
abbrev pub work_after : Answer (List ℕ) → List ℕ → List ℕ
work_after (Refused number place) work = work
work_after (Passed bytes) work = replicate WORK 0 ++ drop WORK work

-- every lent byte afterwards: the output begins with the sets
pub record Leaves (answer : Answer (List ℕ)) (work_a work_b out : List ℕ) (work-a' work-b' out' : List ℕ) : Type 0 where
  pub output_is : out' ≡ output_after answer out
  pub work_a_is : work-a' ≡ work_after answer work_a
  pub work_b_is : work-b' ≡ work_after answer work_b

-- the number that two bytes are, the low byte first
abbrev pub set_at : List ℕ → ℕ → ℕ
set_at bytes q = get_or bytes (2 * q) 0 + 256 * get_or bytes (suc (2 * q)) 0

-- What is told of an accepted tape. Where the call is not refused, it answers twice the number of finished lines, and the output has the
-- set of each; these sets are of ten kinds, and none is lost on the way to the finished lines.
pub record Tells (rules : Rules) (input : Listing) (r : Answer ℕ) (out' : List ℕ) : Type 0 where
  pub answered : (n : ℕ) → r ≡ Passed n → n ≡ 2 * length (finished rules input)
  pub each : (n : ℕ) → r ≡ Passed n → (q : ℕ) → q < length (finished rules input)
      → set_at out' q ≡ get_or (finished_cautions rules input) q 0
  pub kept : Kept rules input
  pub nothing_lost : NothingLost rules input
  pub quiet : Quiet rules input
  pub in_order : InOrder rules input
  pub unwarned : Unwarned rules input
