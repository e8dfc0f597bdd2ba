-- The place of a refusal is the leftmost: the reading comes to it, and no command that it comes to before earns the number.
-- Assumes nothing.
use Prim.Native.Nat.{ℕ, zero, suc, ◌+◌, ◌<◌, ◌≤◌}
use native.Mathlib.Omega.{arith}
use native.Mathlib.Decide.{dec_lt}
use mathlib.Core.Path.{◌≡◌, sym, ap, ◌∙◌}
use mathlib.Core.Logic.{by_cases}
use mathlib.Core.Bool.{Bool, false}
use mathlib.Core.List.{List}
use mathlib.Core.Option.{Option, some}
use lib.ListN.{length, drop}
use Rattle.reference.specs.Listing.{Token, Listing}
use Rattle.reference.specs.Tape.{command_size, command_of}
use Rattle.reference.specs.Questions.{Answer, Passed, read_from, read, read_by, read_from_by}
use Rattle.reference.proofs.Cases.{by-if, none-some, some_inj}
use Rattle.reference.proofs.Reading.{refused_passed, by_passed, command_passed, advances, State, start, left, after, Reached, here, on}
use Rattle.laws.proofs.Scans.{if-true, if-false}
use Rattle.editions.specs.Conversion.{of_command, first_place}
use Rattle.editions.specs.Promises.{Leftmost}

module _ (tape : List ℕ) where
  -- of two places that the reading comes to, the command at the first ends at the second or before it
  apart : (n : ℕ) {s t : State} → Reached tape s → Reached tape t → s.at + t.at < n → s.at < t.at
      → s.at + command_size (left tape s) ≤ t.at
  apart zero r q h k = absurd (omega arith)
  apart (suc n) r here h k = absurd (omega arith)
  apart (suc n) {s} r (on {s = u} q p e) h k =
      let size = advances tape u.at u.totals p in
      by_cases (dec_lt s.at u.at)
      (λ l. omega (arith, size, apart n r q (omega (arith, size)) l))
      (λ l. by_cases (dec_lt u.at s.at)
      (λ m. absurd (omega (arith, apart n q r (omega (arith, size)) m)))
      (λ m. (let same : s.at ≡ u.at = omega arith in omega (arith, ap (λ (k : ℕ). k + command_size (drop k tape)) same))))

  module _ (p : Token → Bool) where
    -- no command that the reading comes to before this offset passes the test
    abbrev Before : ℕ → Type 0
    Before at = (s : State) → Reached tape s → s.at < at → of_command p (command_of (left tape s)) ≡ false

    before_more : (s : State) → Reached tape s → of_command p (command_of (left tape s)) ≡ false → Before s.at
        → Before (s.at + command_size (left tape s))
    before_more s r e b t q h =
        by_cases (dec_lt t.at s.at) (b t q)
        (λ l. by_cases (dec_lt s.at t.at)
        (λ m. absurd (omega (arith, apart (suc (s.at + t.at)) r q (omega arith) m)))
        (λ m. (let same : t.at ≡ s.at = omega arith in ap (λ (k : ℕ). of_command p (command_of (drop k tape))) same ∙ e)))

    module _ (out : Listing) {place : ℕ} where
      from : (fuel : ℕ) (s : State) → Reached tape s → Before s.at → first_place (of_command p) fuel tape s.at ≡ some place
          → read_from fuel tape s.at s.totals s.lines ≡ Passed out → Leftmost p tape place
      unfolding read_from_by first_place
      from zero s r b = λ f e. absurd (none-some f)
      from (suc fuel) s r b =
          by-if
          (λ (x : Option ℕ). x ≡ some place → read_from (suc fuel) tape s.at s.totals s.lines ≡ Passed out → Leftmost p tape place)
          (λ earned f e.
          record {
            state = s;
            reached = r;
            there = some_inj f;
            earned = earned;
            first = λ t q h. b t q (omega (arith, some_inj f));
          })
          (λ unearned f.
          by_passed (λ (x : Answer Listing). x ≡ Passed out → Leftmost p tape place)
          (λ number at u e. absurd (refused_passed e))
          (λ a known e.
          (let q = command_passed tape s.at s.totals a known in
          by-if (λ (x : Answer Listing). x ≡ Passed out → Leftmost p tape place)
          (λ ends e. absurd (none-some (sym (if-true _ _ ends) ∙ f)))
          (λ goes e. from fuel (after tape s) (on r q.0 goes) (before_more s r unearned b) (sym (if-false _ _ goes) ∙ f) e)
          (rw q.1 at e))))

      pub leftmost : read tape ≡ Passed out → first_place (of_command p) (length tape) tape 0 ≡ some place → Leftmost p tape place
      unfolding read_by
      leftmost e f = from (length tape) start here (λ s r h. absurd (omega arith)) f e
