-- A number that no reason has means nothing. Assumes nothing.
use Rattle.std.proofs.Common.{◌≡◌, ℕ, zero, suc, ◌≤◌, List, [], ◌∷◌, length, get_or, refl, arith}
use native.Mathlib.Decide.{dec_le}
use mathlib.Core.Logic.{by_cases}
use Rattle.reference.specs.Text.{Text}
use Rattle.answers.specs.declared.Reason.{Reason}
use Rattle.answers.specs.declared.Reason.TheVariants as reason
use Rattle.answers.specs.Refusals.{number_of}
use Rattle.reports.specs.Reports.{meanings, meaning}

behind : (ts : List Text) (n : ℕ) → length ts ≤ n → [] ≡ get_or ts n []
behind [] n h = refl
behind (t ∷ ts) zero h = absurd (omega arith)
behind (t ∷ ts) (suc n) h = behind ts n (omega arith)

module _ (n : ℕ) (h : (r : Reason) → number_of r ≡ n → ⊥) where
  -- the numbers from 1 to 22 are those of the reasons
  none_or_behind : (23 ≤ n → ⊥) → n ≡ 0
  none_or_behind l =
      omega (
        arith,
        h reason.UnknownConvention,
        h reason.TooLittleRoom,
        h reason.NoCommand,
        h reason.CutOff,
        h reason.OutOfPlace,
        h reason.OutOfBounds,
        h reason.Unprintable,
        h reason.BytesAfterEnd,
        h reason.UnknownEdition,
        h reason.TooMany,
        h reason.TooMuchText,
        h reason.NewKeyword,
        h reason.UnreadNumber,
        h reason.OutsideProfile,
        h reason.NoStartValue,
        h reason.NoRegister,
        h reason.TooLong,
        h reason.OutOfReach,
        h reason.NoBase,
        h reason.NotHeld,
        h reason.StoreFull,
        h reason.BrokenCell,
      )

  pub no_reason : [] ≡ meaning n
  unfolding meaning meanings
  no_reason = by_cases (dec_le 23 n) (λ l. behind meanings n l) (λ l. let z : n ≡ 0 = none_or_behind l in rw z refl)
