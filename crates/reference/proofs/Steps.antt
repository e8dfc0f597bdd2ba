-- Request M-102's first statement: what the step's answer depends on, for any numbers handed in, also such as no tape reaches. Assumes nothing.
use Prim.Native.Nat.{ℕ}
use native.Mathlib.Nat.{add-zero}
use mathlib.Core.Path.{◌≡◌, refl, sym}
use mathlib.Core.Bool.{Bool, true, false}
use mathlib.Core.List.{List, [], ◌∷◌}
use lib.Dec.{eqb}
use lib.ListN.{drop}
use Rattle.reference.specs.Control.{when◌then◌else◌}
use Rattle.reference.specs.Tape.{TapeForm, old, Command, command_by}
use Rattle.reference.specs.Questions.{Totals, first_offending, place_at, Passed, ask, Advance, read_command_by, read_command}
use Rattle.reference.specs.Steps.{AsFar, Same, FromHereBy, FromHere}

by_test : {X : Type 0} (b : Bool) → (b ≡ true → X) → (b ≡ false → X) → X
by_test true f g = f refl
by_test false f g = g refl

place_as_far : (a b : ℕ) (c : Command) (n : ℕ) → AsFar a (place_at a c n) b (place_at b c n)
unfolding place_at when◌then◌else◌
place_as_far a b c n =
    by_test (eqb n 7)
    (λ e. rw e (record { distance = first_offending c; first = refl; second = refl }))
    (λ e. rw e (record { distance = 0; first = sym (add-zero a); second = sym (add-zero b) }))

ask_same : (a b : ℕ) (c : Command) (qs : List (ℕ × Bool)) (x y : Advance) → Same a (Passed x) b (Passed y)
    → Same a (ask (place_at a c) qs (Passed x)) b (ask (place_at b c) qs (Passed y))
unfolding ask when◌then◌else◌
ask_same a b c [] x y h = h
ask_same a b c (q ∷ more) x y h =
    by_test q.1 (λ e. rw e (ask_same a b c more x y h)) (λ e. rw e (refl, place_as_far a b c q.0))

-- FOR ANY SUM HANDED IN, THE STEP'S ANSWER DEPENDS ONLY ON THE NUMBERS CARRIED ALONG AND THE TAPE FROM ITS OFFSET ON
pub step-from_here_by : (form : TapeForm) (tape : List ℕ) (at : ℕ) (t : Totals) → FromHereBy form tape at t (read_command_by form tape at t)
unfolding read_command_by
step-from_here_by form tape at t other b e =
    rw e (ask_same at b (command_by form (drop b other)) _ _ _ (refl, refl, record { distance = _; first = refl; second = refl }))

-- the old form's
pub step-from_here : (tape : List ℕ) (at : ℕ) (t : Totals) → FromHere tape at t (read_command tape at t)
step-from_here = step-from_here_by old
