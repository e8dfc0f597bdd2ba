-- The number of each reason, by documents 01 and 02, the reason of a number, what a result means that is refused for one, and what is
-- printed of a refusal. Document 01: "Where an answer is an enum, a definition gives this paper's number and values for each case of the
-- enum, and the promises use that definition." Assumes nothing.
use Rattle.std.specs.Prelude.{ℕ, ◌≡◌, List, ◌++◌, Result, Ok, Err, MatchResult, codes, decimal}
use Rattle.reference.specs.Questions.{Answer, Refused, Passed}
use Rattle.answers.specs.declared.Reason.{Reason}
use Rattle.answers.specs.declared.Reason.TheVariants as reason
use Rattle.answers.specs.declared.UnknownReason.{UnknownReason}
use Rattle.answers.specs.declared.Refusal.{Refusal}

abbrev pub number_of : Reason → ℕ
number_of reason.UnknownConvention = 1
number_of reason.TooLittleRoom = 2
number_of reason.NoCommand = 3
number_of reason.CutOff = 4
number_of reason.OutOfPlace = 5
number_of reason.OutOfBounds = 6
number_of reason.Unprintable = 7
number_of reason.BytesAfterEnd = 8
number_of reason.UnknownEdition = 9
number_of reason.TooMany = 10
number_of reason.TooMuchText = 11
number_of reason.NewKeyword = 12
number_of reason.UnreadNumber = 13
number_of reason.OutsideProfile = 14
number_of reason.NoStartValue = 15
number_of reason.NoRegister = 16
number_of reason.TooLong = 17
number_of reason.OutOfReach = 18
number_of reason.NoBase = 19
number_of reason.NotHeld = 20
number_of reason.StoreFull = 21
number_of reason.BrokenCell = 22

-- the reason of a number, or an error for a number that no reason has
abbrev pub Numbers : ℕ → Result Reason UnknownReason → Type 0
Numbers n r = MatchResult r (λ reason. number_of reason ≡ n) (λ _. (reason : Reason) → number_of reason ≡ n → ⊥)

-- the definitions' answer: its number and place, or what f makes of the value
abbrev pub answered : {A B : Type 0} → (A → B) → Result A Refusal → Answer B
answered f (Ok a) = Passed (f a)
answered f (Err r) = Refused (number_of r.reason) r.place

-- the number of a question that refuses, or 0
abbrev pub refusing : {A : Type 0} → Result A Reason → ℕ
refusing (Ok a) = 0
refusing (Err r) = number_of r

-- what is printed of a refusal: its number and its place, in decimal
abbrev pub refusal_text : Refusal → List ℕ
refusal_text r = codes "refused " ++ decimal (number_of r.reason) ++ codes " at " ++ decimal r.place
