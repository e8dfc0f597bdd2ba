-- Rust's `!`, `&&`, `||`, `if` and `let .. else`, in which the definitions are written. Each is shut (`unfoldable`, no `abbrev`): a proof
-- takes a goal over one apart by a law that keeps the equation (proofs/Cases.antt) and finds its arguments there. Assumes nothing.
use Rattle.std.specs.Prelude.{Bool, true, false}
use Rattle.std.proofs.Math.Option.{Option, none, some}

infixr 35 ◌and◌
infixr 30 ◌or◌
unfoldable pub not : Bool → Bool
not true = false
not false = true

unfoldable pub ◌and◌ : Bool → Bool → Bool
true and b = b
false and b = false

unfoldable pub ◌or◌ : Bool → Bool → Bool
true or b = true
false or b = b

module _ {ℓ} {A : Type ℓ} where
  infixr 1 when◌then◌else◌
  -- A branch that calls the function itself is bound by a `let` first, so that it is computed only if it is taken.
  unfoldable pub when◌then◌else◌ : Bool → A → A → A
  when true then a else b = a
  when false then a else b = b

-- `let Some(x) = o else { return d; }; k`
module _ {ℓ κ} {A : Type ℓ} {B : Type κ} where
  infixr 1 let_some◌else◌then◌
  unfoldable pub let_some◌else◌then◌ : Option A → B → (A → B) → B
  let_some none else d then k = d
  let_some (some a) else d then k = k a
