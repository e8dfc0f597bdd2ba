-- Which raw lines came into a finished line (M-105), asked of the cleaning itself: a copy of the listing in which one line alone has an
-- address is cleaned, and the finished lines that have marks are those that this line came into (proofs/Told.antt). Assumes nothing.
use Rattle.std.specs.Prelude.{ℕ, zero, suc, Bool, List, [], ◌∷◌, leb, ltb, length}
use Rattle.std.proofs.Math.Option.{some}
use Rattle.reference.specs.Control.{◌and◌, when◌then◌else◌, let_some◌else◌then◌}
use Rattle.reference.specs.Listing.{Line, Listing}
use Rattle.reference.specs.Rules.{Rules}
use Rattle.reference.specs.Run.{run, attempts_of, finished}
use Rattle.reference.specs.Marks.{comes_to}
use Rattle.reference.specs.Tape.{write}
use Rattle.reference.specs.Questions.{is_convention, is_edition, has_room, Answer, Refused, Passed, ask, let_passed◌then◌, read}
use Rattle.reference.specs.Straight.{breaks}
use Rattle.reference.specs.Reply.{Reply, reply}
use Rattle.joining.specs.Bare.{bare, bare_lines}

-- ---- the copy

-- a line with this address
abbrev pub with_address : ℕ → Line → Line
with_address address l = record { address = some address; indent = l.indent; tokens = l.tokens }

-- the same lines, all without address but line k, whose address is 0
unfoldable pub only : ℕ → Listing → Listing
only k [] = []
only zero (l ∷ ls) = with_address 0 l ∷ bare_lines ls
only (suc k) (l ∷ ls) = bare l ∷ only k ls

-- its tape; no 03 stands there
unfoldable pub only_tape : ℕ → Listing → List ℕ
only_tape k lines = write (only k lines) []

-- what its output has at least: the bytes of the longest tape that is accepted
abbrev pub COPY : ℕ
COPY = 34561

-- the number of a line, a tape, and how many bytes the output has: a refusal, or the copy's tape
unfoldable pub only_reply : ℕ → List ℕ → ℕ → Answer (List ℕ)
only_reply k tape output =
    ask (λ number. 0) ((2, leb COPY output) ∷ []) (let_passed (read tape) then λ lines. Passed (only_tape k lines))

-- ---- what it tells

-- whether there is a line k, and it comes into the finished line q
unfoldable pub came : Rules → Listing → ℕ → ℕ → Bool
came rules input k q = ltb k (length input) and comes_to (attempts_of (run rules input)) k q

-- a byte for each line of a listing: 1 where the test of its place passes, else 0
unfoldable pub flags : (ℕ → Bool) → Listing → List ℕ
flags test [] = []
flags test (l ∷ ls) = (when test 0 then 1 else 0) ∷ flags (λ q. test (suc q)) ls

-- for each finished line whether line k comes into it
unfoldable pub came_flags : Rules → Listing → ℕ → List ℕ
came_flags rules input k = flags (came rules input k) (finished rules input)

-- ---- the call that tells it

-- the bytes that are lent to it
pub record Lent : Type 0 where
  pub copy : List ℕ
  pub work_a : List ℕ
  pub work_b : List ℕ
  pub output : List ℕ
  pub flags : List ℕ

-- what its flags have at least: one for each line of an accepted tape
abbrev pub FLAGS : ℕ
FLAGS = 256

-- what is asked before the tape is read: what the cleaning asks, and the two lengths more
unfoldable pub ask_lent : {A : Type 0} → Rules → Lent → Answer A → Answer A
ask_lent rules lent a =
    ask (λ number. 0)
    ((1, is_convention rules)
    ∷ (9, is_edition rules)
    ∷ (2, has_room (length lent.work_a) (length lent.work_b) (length lent.output))
    ∷ [])
    (ask (λ number. 0) ((2, leb FLAGS (length lent.flags)) ∷ (2, leb COPY (length lent.copy)) ∷ []) a)

-- the first line that breaks the profile, where it is asked for, as the cleaning asks
unfoldable pub in_profile : {A : Type 0} → Rules → Listing → Answer A → Answer A
in_profile rules lines a = when rules.profile then (let_some (breaks lines) else a then λ n. Refused 14 n) else a

-- the copy that it makes
unfoldable pub came_copy : Rules → ℕ → List ℕ → Lent → Answer (List ℕ)
came_copy rules k tape lent = ask_lent rules lent (let_passed (read tape) then λ lines. Passed (only_tape k lines))

-- the cleaning of the copy
unfoldable pub came_cleaning : Rules → ℕ → List ℕ → Lent → Reply
came_cleaning rules k tape lent =
    let_passed (came_copy rules k tape lent) then λ copy.
    reply rules copy (length lent.work_a) (length lent.work_b) (length lent.output)

-- what it answers: a refusal, as the cleaning of the tape itself gives it but for the two lengths more; or the flags, and with them how
-- many lines are finished
unfoldable pub came_reply : Rules → ℕ → List ℕ → Lent → Answer (List ℕ)
came_reply rules k tape lent =
    ask_lent rules lent (let_passed (read tape) then λ lines. in_profile rules lines (Passed (came_flags rules lines k)))
