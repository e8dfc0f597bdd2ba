-- The call is refused as the cleaning is, where the output is long enough for both. Assumes nothing.
use Prim.Native.Nat.{ℕ}
use native.Mathlib.Omega.{arith}
use mathlib.Core.Path.{◌≡◌, refl}
use mathlib.Core.Bool.{Bool, true, false}
use mathlib.Core.List.{List, [], ◌∷◌}
use mathlib.Core.Option.{Option, none, some}
use borrow.Author.Tests.{le-leb}
use Rattle.reference.specs.Control.{when◌then◌else◌, let_some◌else◌then◌}
use Rattle.reference.specs.Listing.{Listing}
use Rattle.reference.specs.Rules.{Rules}
use Rattle.reference.specs.Questions as Q
use Rattle.reference.specs.Questions.{Answer, Refused, Passed, has_room_by, ask, let_passed◌then◌, read}
use Rattle.reference.specs.Straight.{breaks}
use Rattle.reference.specs.Reply.{ask_profile, reply_by}
use Rattle.clean.specs.Replies.{outside}
use Rattle.cautions.specs.Cautions.{finished_cautions, caution_bytes}
use Rattle.cautioned.specs.Replies.{OUTPUT, cautions_reply, verdict, RefusedAlike}

-- of answers that are refused alike, behind the same questions
asked-alike : {A B : Type 0} (place : ℕ → ℕ) (qs : List (ℕ × Bool)) (a : Answer A) (b : Answer B) → verdict a ≡ verdict b
    → verdict (ask place qs a) ≡ verdict (ask place qs b)
unfolding ask when◌then◌else◌
asked-alike place [] a b e = e
asked-alike place (q ∷ more) a b e = go q.1 (asked-alike place more a b e)
  where
    go : (yes : Bool) → verdict (ask place more a) ≡ verdict (ask place more b)
        → verdict (when yes then ask place more a else Refused q.0 (place q.0)) ≡ verdict (when yes then ask place more b else Refused q.0 (place q.0))
    go true r = r
    go false r = refl

-- and behind the same answer
read-alike : {A B C : Type 0} (a : Answer C) (k : C → Answer A) (l : C → Answer B) → ((c : C) → verdict (k c) ≡ verdict (l c))
    → verdict (let_passed a then k) ≡ verdict (let_passed a then l)
unfolding let_passed◌then◌
read-alike (Refused number place) k l e = refl
read-alike (Passed c) k l e = e c

profile-alike : (rules : Rules) (lines : Listing) {A B : Type 0} (a : A) (b : B)
    → verdict (let_some (outside rules lines) else Passed a then λ n. Refused 14 n)
    ≡ verdict (when rules.profile then (let_some (breaks lines) else Passed b then λ n. Refused 14 n) else Passed b)
unfolding when◌then◌else◌ let_some◌else◌then◌
profile-alike rules lines a b = go rules.profile (breaks lines)
  where
    go : (on : Bool) (o : Option ℕ) → verdict (let_some (when on then o else none) else Passed a then λ n. Refused 14 n)
        ≡ verdict (when on then (let_some o else Passed b then λ n. Refused 14 n) else Passed b)
    go true none = refl
    go true (some n) = refl
    go false o = refl

pub refused-alike : (rules : Rules) (tape : List ℕ) (work_a work_b output : ℕ) → RefusedAlike rules tape work_a work_b output
unfolding cautions_reply reply_by ask_profile has_room_by
refused-alike rules tape work_a work_b output h =
    rw (le-leb OUTPUT output (omega arith), le-leb Q.OUTPUT output h)
    (asked-alike (λ number. 0) _ _ _
    (read-alike (read tape) _ _
    (λ lines. profile-alike rules lines (caution_bytes (finished_cautions rules lines)) _)))
