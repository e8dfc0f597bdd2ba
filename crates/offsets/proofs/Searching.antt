-- Question 18 as the code asks it: the tests on machine numbers, and the first command that has a bad address. Assumes nothing.
use Prim.Native.Nat.{ℕ, suc, ◌+◌, ◌-◌, ◌≤◌, ◌<◌, ◌^◌}
use native.Mathlib.Omega.{arith}
use mathlib.Core.Path.{◌≡◌, refl, sym, ◌∙◌}
use mathlib.Core.Bool.{Bool, true, false}
use mathlib.Core.List.{List}
use mathlib.Core.Option.{none, some}
use lib.Dec.{leb}
use lib.ListN.{drop}
use borrow.Author.Tests.{leb-true, leb-false, le-leb, lt-leb, lt-ltb, le-ltb}
use Rattle.std.specs.Prelude as Std
use Rattle.std.specs.Prelude.{Some, None, not}
use Rattle.std.specs.Option.{SomeIff, is_some}
use Rattle.reference.specs.Control.{◌or◌, when◌then◌else◌}
use Rattle.reference.specs.Lists.{any}
use Rattle.reference.specs.Tape.{TapeForm, Command, end, command_size_by, command_by}
use Rattle.reference.specs.Listing.{Listing}
use Rattle.reference.specs.Questions.{Passed, is_end, read_by}
use Rattle.reference.proofs.LittleEndian.{Bytes}
use Rattle.laws.proofs.Scans.{or_true, or_false}
use Rattle.tape.specs.Held.{places_by, first_where}
use Rattle.tape.proofs.walk.Places.{search-finds}
use Rattle.offsets.specs.Offsets.{addresses, first_from, first_with, out_of_reach, wraps}

-- ---- the tests

pub below-base : (base address : ℕ) → address < base → true ≡ out_of_reach base address
unfolding out_of_reach
below-base base address h = sym (or_true _ (lt-ltb address base h))

pub above-base : (base address : ℕ) → base ≤ address → leb 4294967296 (address - base) ≡ out_of_reach base address
unfolding out_of_reach
above-base base address h = sym (or_false _ (le-ltb address base h) ∙ go (leb 4294967296 (address - base)) refl)
  where
    go : (b : Bool) → leb 4294967296 (address - base) ≡ b → leb (base + 2 ^ 32) address ≡ b
    go true e = le-leb (base + 2 ^ 32) address (omega (arith, leb-true 4294967296 (address - base) e))
    go false e = lt-leb (base + 2 ^ 32) address (omega (arith, leb-false 4294967296 (address - base) e))

-- a sum that does not fit is one above 2^64 - 1
pub sum_over : (base offset : ℕ) (o : Std.Option ℕ) (r : Bool) → SomeIff o (base + offset < 2 ^ 64) (base + offset) → is_some o ≡ not r
    → r ≡ wraps base offset
unfolding wraps
sum_over base offset None true h e = sym (le-leb (2 ^ 64) (base + offset) (omega (arith, h)))
sum_over base offset None false h e = cc
sum_over base offset (Some v) true h e = cc
sum_over base offset (Some v) false h e = sym (lt-leb (2 ^ 64) (base + offset) (omega (arith, h)))

-- one test more that is never met
pub or_none : (a : Bool) → (a or false) ≡ a
unfolding ◌or◌
or_none true = refl
or_none false = refl

-- ---- the first command with a bad address

is_bad_end : (bad : ℕ → Bool) → any bad (addresses end) ≡ false
unfolding addresses
is_bad_end bad = refl

abbrev pub bad_command : (ℕ → Bool) → Command → Bool
bad_command bad c = any bad (addresses c)

module _ (form : TapeForm) (bad : ℕ → Bool) (tape : List ℕ) where
  steps : (fuel at : ℕ) → first_from form bad (suc fuel) tape at
      ≡ (when bad_command bad (command_by form (drop at tape)) then some at else when is_end (command_by form (drop at tape)) then none
      else first_from form bad fuel tape (at + command_size_by form (drop at tape)))
  unfolding first_from
  steps fuel at = refl

  -- IT IS THE FIRST PLACE WITH ONE
  pub first-place : (lines : Listing) → Bytes tape → read_by form tape ≡ Passed lines → first_with form bad tape ≡ first_where (bad_command bad) (places_by form tape)
  unfolding first_with
  first-place lines b reads = search-finds form (bad_command bad) tape (λ fuel at. first_from form bad fuel tape at) steps (is_bad_end bad) lines b reads
