-- What the code's answers mean, and what a call that writes an output does to it. Assumes nothing.
use Rattle.std.specs.Prelude.{ℕ, ◌≡◌, List, ◌++◌, length, drop}
use Rattle.reference.specs.Questions as Q
use Rattle.std.specs.Prelude.{Result, Ok, Err}
use Rattle.answers.specs.declared.Refusal.{Refusal}
use Rattle.answers.specs.Refusals.{answered}
use Rattle.answers.specs.declared.Told.{Told}

-- the definitions' answer
abbrev pub answer_of : Result ℕ Refusal → Q.Answer ℕ
answer_of = answered (λ n. n)

-- the same of an answer whose refusal is a number, whichever, and a place
abbrev pub by_number : Result ℕ (ℕ × ℕ) → Q.Answer ℕ
by_number (Ok n) = Q.Passed n
by_number (Err (number, place)) = Q.Refused number place

-- ---- an answer in three numbers

pub record InNumbers : Type 0 where
  pub refusal : ℕ
  pub place : ℕ
  pub value : ℕ

abbrev pub in_numbers : Q.Answer ℕ → InNumbers
in_numbers (Q.Refused number place) = record { refusal = number; place = place; value = 0 }
in_numbers (Q.Passed n) = record { refusal = 0; place = 0; value = n }

abbrev pub numbers_of : Told → InNumbers
numbers_of n = record { refusal = n.refusal; place = n.place; value = n.value }

-- ---- a call that writes bytes at the front of a lent output

-- what it answers: how many bytes
abbrev pub measured : Q.Answer (List ℕ) → Q.Answer ℕ
measured (Q.Refused number place) = Q.Refused number place
measured (Q.Passed bytes) = Q.Passed (length bytes)

-- A refusal changes nothing lent. Otherwise the output begins with the bytes, and past them it is as before.
abbrev pub output_after : Q.Answer (List ℕ) → List ℕ → List ℕ
output_after (Q.Refused number place) output = output
output_after (Q.Passed bytes) output = bytes ++ drop (length bytes) output

-- the promise of such a call: its answer, and every byte of the output afterwards
pub record Writes (answer : Q.Answer (List ℕ)) (out out' : List ℕ) (r : Q.Answer ℕ) : Type 0 where
  pub reply_is : r ≡ measured answer
  pub output_is : out' ≡ output_after answer out

-- the same for C, whose reply is three numbers
pub record WritesTold (answer : Q.Answer (List ℕ)) (out out' : List ℕ) (r : InNumbers) : Type 0 where
  pub reply_is : r ≡ in_numbers (measured answer)
  pub output_is : out' ≡ output_after answer out
