-- The operations on slices, vectors and iterators that pseudo_opt.rs calls, under the Rust's names. Assumes nothing.
use Rattle.std.specs.Prelude.{ℕ, zero, suc, Bool, true, false, List, [], ◌∷◌}
use Rattle.std.proofs.Math.Option.{Option, none, some}
use Rattle.reference.specs.Control.{◌or◌, when◌then◌else◌, let_some◌else◌then◌}

module _ {ℓ} {A : Type ℓ} where
  abbrev pub is_some : Option A → Bool
  is_some none = false
  is_some (some a) = true

  abbrev pub is_empty : List A → Bool
  is_empty [] = true
  is_empty (x ∷ xs) = false

  -- `.iter().any(p)`
  abbrev pub any : (A → Bool) → List A → Bool
  any p [] = false
  any p (x ∷ xs) = let r = any p xs in p x or r

  -- `.iter().filter(p).count()`
  abbrev pub count : (A → Bool) → List A → ℕ
  count p [] = 0
  count p (x ∷ xs) = let r = count p xs in when p x then suc r else r

  -- `.iter().find(p)`
  abbrev pub find : (A → Bool) → List A → Option A
  find p [] = none
  find p (x ∷ xs) = let r = find p xs in when p x then some x else r

  -- `.iter().position(p)`
  abbrev pub position : (A → Bool) → List A → Option ℕ
  position p [] = none
  position p (x ∷ xs) = let r = position p xs in when p x then some 0 else (let_some r else none then λ i. some (suc i))

  -- `(0..n).rev().find(p)`, over the first n elements
  abbrev pub last_position : (A → Bool) → List A → Option ℕ
  last_position p [] = none
  last_position p (x ∷ xs) = let_some (last_position p xs) else (when p x then some 0 else none) then λ i. some (suc i)

  -- `.windows(2)`
  abbrev pub pairs_from : A → List A → List (A × A)
  pairs_from a [] = []
  pairs_from a (b ∷ bs) = (a, b) ∷ pairs_from b bs

  abbrev pub windows : List A → List (A × A)
  windows [] = []
  windows (a ∷ rest) = pairs_from a rest

  -- `.remove(i)`
  abbrev pub remove : ℕ → List A → List A
  remove i [] = []
  remove zero (x ∷ xs) = xs
  remove (suc i) (x ∷ xs) = x ∷ remove i xs

  -- `v[i] = f(v[i])`
  abbrev pub modify : ℕ → (A → A) → List A → List A
  modify i f [] = []
  modify zero f (x ∷ xs) = f x ∷ xs
  modify (suc i) f (x ∷ xs) = x ∷ modify i f xs

  -- `.get(i)`
  abbrev pub get : List A → ℕ → Option A
  get [] i = none
  get (x ∷ xs) zero = some x
  get (x ∷ xs) (suc i) = get xs i
