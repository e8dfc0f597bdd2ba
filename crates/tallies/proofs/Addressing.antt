-- Addresses, command by command: what is found so far, with what is to come, is the tape's. Assumes nothing.
use Prim.Native.Nat.{ℕ, suc, ◌+◌}
use native.Mathlib.Omega.{arith}
use mathlib.Core.Path.{◌≡◌, refl, ap}
use mathlib.Core.Bool.{true, false}
use mathlib.Core.Option.{Option, none, some}
use mathlib.Core.List.{[], ◌∷◌}
use Rattle.std.specs.Prelude as std
use Rattle.std.specs.Option as std_option
use Rattle.reference.specs.Control.{when◌then◌else◌, let_some◌else◌then◌}
use Rattle.reference.specs.Lists.{position, is_some}
use Rattle.reference.specs.Options.{option_of}
use Rattle.reference.specs.Listing.{Line, Listing}

-- Rust's `is_some`
pub some_shown : {A : Type 0} (o : std.Option A) → std_option.is_some o ≡ is_some (option_of o)
some_shown (std.Some x) = refl
some_shown std.None = refl

-- ---- the first line that has an address

abbrev pub first_line : Listing → Option ℕ
first_line = position (λ l. is_some l.address)

-- where so many lines stand before
unfoldable pub first_from : ℕ → Listing → Option ℕ
first_from n lines = let_some (first_line lines) else none then λ i. some (n + i)

pub none_before : (lines : Listing) → first_from 0 lines ≡ first_line lines
unfolding first_from let_some◌else◌then◌
none_before lines = go (first_line lines)
  where
    go : (o : Option ℕ) → (let_some o else none then λ i. some (0 + i)) ≡ o
    go none = refl
    go (some i) = ap some (omega arith)

pub first_none : (n : ℕ) → none ≡ first_from n []
unfolding first_from let_some◌else◌then◌
first_none n = refl

module _ (n : ℕ) (l : Line) (lines : Listing) where
  pub first_is : is_some l.address ≡ true → first_from n (l ∷ lines) ≡ some n
  unfolding first_from let_some◌else◌then◌ when◌then◌else◌
  first_is e = rw e (ap some (omega arith))

  pub first_later : is_some l.address ≡ false → first_from n (l ∷ lines) ≡ first_from (n + 1) lines
  unfolding first_from let_some◌else◌then◌ when◌then◌else◌
  first_later e = rw e (go (first_line lines))
    where
      go : (o : Option ℕ) → (let_some (let_some o else none then λ i. some (suc i)) else none then λ i. some (n + i)) ≡ (let_some o else none then λ i. some (n + 1 + i))
      go none = refl
      go (some i) = ap some (omega arith)
