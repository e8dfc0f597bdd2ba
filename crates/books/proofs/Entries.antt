-- One computed test over a table, and the rule at each of its entries. Assumes nothing.
use Prim.Native.Nat.{ℕ, zero, suc}
use mathlib.Core.Path.{◌≡◌}
use mathlib.Core.List.{List, [], ◌∷◌, map}
use mathlib.Core.Option.{some}
use lib.ListN.{get_or}
use Rattle.reference.specs.Lists.{get}
use Rattle.books.specs.Tables.{◌∈◌}

module _ {ℓ κ} {A : Type ℓ} {B : Type κ} (f g : A → B) where
  at : (xs : List A) → map f xs ≡ map g xs → (i : ℕ) {x : A} → get xs i ≡ some x → f x ≡ g x
  at [] e i h = cc
  at (y ∷ ys) e zero h = cc
  at (y ∷ ys) e (suc i) h = at ys (cc) i h

  -- what f and g say of the table, entry by entry, is the same: so it is at each entry
  pub at_each : (xs : List A) → map f xs ≡ map g xs → {x : A} → x ∈ xs → f x ≡ g x
  at_each xs e h = at xs e h.0 h.1

-- two lists, place by place
module _ {ℓ κ μ} {A : Type ℓ} {B : Type κ} {C : Type μ} (f : A → C) (g : B → C) where
  pub aligned : (xs : List A) (ys : List B) → map f xs ≡ map g ys → (i : ℕ) {x : A} → get xs i ≡ some x → (d : B) → f x ≡ g (get_or ys i d)
  aligned [] ys e i h d = cc
  aligned (x ∷ xs) [] e i h d = cc
  aligned (x ∷ xs) (y ∷ ys) e zero h d = cc
  aligned (x ∷ xs) (y ∷ ys) e (suc i) h d = aligned xs ys (cc) i h d
