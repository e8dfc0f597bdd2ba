-- Tests of tokens, as the code makes them: of the kind, and of `is_operator_expr`. Assumes nothing.
use Prim.Native.Nat.{ℕ, ◌≤◌, ◌<◌}
use mathlib.Core.Path.{◌≡◌, refl, sym, ap, ◌∙◌}
use mathlib.Core.Bool.{Bool, true, false}
use mathlib.Core.List.{List}
use lib.Dec.{eqb}
use lib.ListN.{length}
use borrow.Author.Tests.{eq-eqb, ne_eqb, lt-ltb, le-ltb}
use Rattle.reference.specs.Control.{◌and◌}
use Rattle.reference.specs.Lists.{any}
use Rattle.reference.specs.Listing.{Token, is}
use Rattle.reference.specs.Shapes.{is_operator, is_operator_expr}
use Rattle.laws.proofs.Scans.{and_here, and_second, and_true, and_false, not_same, tests}

-- x is the kind that was read
pub is_it : (t : Token) (k : ℕ) {x : ℕ} → x ≡ t.kind → x ≡ k → true ≡ is k t
unfolding is
is_it t k e h = sym (eq-eqb _ _ (sym e ∙ h))

pub is_not : (t : Token) (k : ℕ) {x : ℕ} → x ≡ t.kind → (x ≡ k → ⊥) → false ≡ is k t
unfolding is
is_not t k e h = sym (ne_eqb _ _ (λ f. h (e ∙ f)))

pub is_test : (t : Token) (k : ℕ) {x : ℕ} → x ≡ t.kind → eqb x k ≡ is k t
unfolding is
is_test t k e = ap (λ (n : ℕ). eqb n k) e

pub kind_fails : (t : Token) (k : ℕ) (b : Bool) {x : ℕ} → x ≡ t.kind → (x ≡ k → ⊥) → false ≡ (is k t and b)
kind_fails t k b e h = and_here b (is_not t k e h) refl

pub kind_holds : (t : Token) (k : ℕ) {b : Bool} {x : ℕ} {y : Bool} → x ≡ t.kind → x ≡ k → y ≡ b → y ≡ (is k t and b)
kind_holds t k e h f = and_second (is_it t k e h) refl f

-- the same of the test itself, where it fails
pub kind_stops : (t : Token) (k : ℕ) (b : Bool) {x : ℕ} → x ≡ t.kind → (x ≡ k → ⊥) → eqb x k ≡ (is k t and b)
kind_stops t k b e h = ne_eqb _ _ h ∙ kind_fails t k b e h

pub ruleset kinds = (is_it, kind_fails, kind_holds, kind_stops)

-- what the tests of one or two tokens leave
pub ruleset token_tests = (tests, kinds)

-- ---- operators

-- an expression of several tokens, and one of fewer
pub operator_many : (ts : List Token) {b : Bool} → 1 < length ts → b ≡ any is_operator ts → b ≡ is_operator_expr ts
unfolding is_operator_expr
operator_many ts h e = e ∙ sym (and_true _ (lt-ltb _ _ h))

pub operator-few : (ts : List Token) → length ts ≤ 1 → false ≡ is_operator_expr ts
unfolding is_operator_expr
operator-few ts h = sym (and_false _ (le-ltb _ _ h))
