-- The evaluators on one kind of values and on another: what keeps sums, differences and numbers keeps what expressions are worth. So whether an
-- expression is read does not depend on the values. Assumes nothing.
use Prim.Native.Nat.{ℕ, zero, suc}
use mathlib.Core.Path.{◌≡◌, refl, sym, ap, ◌∙◌}
use mathlib.Core.Bool.{Bool, true, false}
use mathlib.Core.List.{List, [], ◌∷◌}
use mathlib.Core.Option.{Option, none, some}
use lib.Dec.{eqb}
use lib.IntN.{ℤ}
use Rattle.reference.specs.Control.{when◌then◌else◌, let_some◌else◌then◌}
use Rattle.reference.specs.Lists.{is_some, is_empty}
use Rattle.reference.specs.Text.{Text, bytes}
use Rattle.reference.specs.Evaluators.{Arithmetic, Lexeme, sign, reg, num, junk, behind, Operator, adds, takes, operator, fuel_for, combine, expression, term, further, evaluate}

-- a value turned into another
abbrev pub image : {X Y : Type 0} → (X → Y) → Option X → Option Y
image h none = none
image h (some v) = some (h v)

pub is_some_image : {X Y : Type 0} (h : X → Y) (o : Option X) → is_some (image h o) ≡ is_some o
is_some_image h none = refl
is_some_image h (some v) = refl

pub image_then : {X Y A B : Type 0} (f : X → Y) (g : A → B) (o : Option X) (k : X → Option A) (k' : Y → Option B) → ((x : X) → k' (f x) ≡ image g (k x))
    → (let_some (image f o) else none then k') ≡ image g (let_some o else none then k)
unfolding let_some◌else◌then◌
image_then f g none k k' e = refl
image_then f g (some x) k k' e = e x

pub then_image : {X A B : Type 0} (g : A → B) (o : Option X) (k : X → Option A) (k' : X → Option B) → ((x : X) → k' x ≡ image g (k x))
    → (let_some o else none then k') ≡ image g (let_some o else none then k)
unfolding let_some◌else◌then◌
then_image g none k k' e = refl
then_image g (some x) k k' e = e x

else_image : {X A B : Type 0} (g : A → B) (o : Option X) (d : A) (k : X → Option A) (k' : X → Option B) → ((x : X) → k' x ≡ image g (k x))
    → (let_some o else some (g d) then k') ≡ image g (let_some o else some d then k)
unfolding let_some◌else◌then◌
else_image g none d k k' e = refl
else_image g (some x) d k k' e = e x

if_image : {A B : Type 0} (g : A → B) (b : Bool) (o : Option A) (o' : Option B) → o' ≡ image g o → (when b then o' else none) ≡ image g (when b then o else none)
unfolding when◌then◌else◌
if_image g true o o' e = e
if_image g false o o' e = refl

module _ {X Y : Type 0} (a : Arithmetic X) (b : Arithmetic Y) (h : X → Y)
    (sums : (v w : X) → h (a.sum v w) ≡ b.sum (h v) (h w))
    (differences : (v w : X) → h (a.difference v w) ≡ b.difference (h v) (h w))
    (numbers : (z : ℤ) → h (a.number z) ≡ b.number z)
    (σ : Text → X) (τ : Text → Y) (registers : (x : Text) → h (σ x) ≡ τ x) where
  both_of : X × List Lexeme → Y × List Lexeme
  both_of r = (h r.0, r.1)

  combined : (o : Operator) (v w : X) → combine b o (h v) (h w) ≡ h (combine a o v w)
  unfolding combine
  combined adds v w = sym (sums v w)
  combined takes v w = sym (differences v w)

  mutual
    unfolding expression both_of

    expression_image : (fuel : ℕ) (xs : List Lexeme) → expression b τ fuel xs ≡ image both_of (expression a σ fuel xs)
    expression_image zero xs = refl
    expression_image (suc fuel) xs =
        ap (λ (o : Option (Y × List Lexeme)). let_some o else none then λ r. further b τ fuel r.0 r.1) (term_image fuel xs)
        ∙ image_then both_of both_of (term a σ fuel xs) (λ r. further a σ fuel r.0 r.1) (λ r. further b τ fuel r.0 r.1)
        (λ r. further_image fuel r.0 r.1)

    term_image : (fuel : ℕ) (xs : List Lexeme) → term b τ fuel xs ≡ image both_of (term a σ fuel xs)
    term_image zero xs = refl
    term_image (suc fuel) [] = refl
    term_image (suc fuel) (reg x ∷ xs) = ap (λ (v : Y). some (v, xs)) (sym (registers x))
    term_image (suc fuel) (num z ∷ xs) = ap (λ (v : Y). some (v, xs)) (sym (numbers z))
    term_image (suc fuel) (junk ∷ xs) = refl
    term_image (suc fuel) (sign c ∷ xs) =
        if_image both_of (eqb c 40)
        (let_some (expression a σ fuel xs) else none then λ r. let_some (behind (bytes ")") r.1) else none then λ rest. some (r.0, rest))
        (let_some (expression b τ fuel xs) else none then λ r. let_some (behind (bytes ")") r.1) else none then λ rest. some (r.0, rest))
        (ap (λ (o : Option (Y × List Lexeme)). let_some o else none then λ r. let_some (behind (bytes ")") r.1) else none then λ rest. some (r.0, rest))
        (expression_image fuel xs)
        ∙ image_then both_of both_of (expression a σ fuel xs)
        (λ r. let_some (behind (bytes ")") r.1) else none then λ rest. some (r.0, rest))
        (λ r. let_some (behind (bytes ")") r.1) else none then λ rest. some (r.0, rest))
        (λ r. then_image both_of (behind (bytes ")") r.1) (λ rest. some (r.0, rest)) (λ rest. some (h r.0, rest)) (λ rest. refl)))

    further_image : (fuel : ℕ) (v : X) (xs : List Lexeme) → further b τ fuel (h v) xs ≡ image both_of (further a σ fuel v xs)
    further_image zero v xs = refl
    further_image (suc fuel) v xs =
        else_image both_of (operator xs) (v, xs)
        (λ o. let_some (term a σ fuel o.1) else none then λ r. further a σ fuel (combine a o.0 v r.0) r.1)
        (λ o. let_some (term b τ fuel o.1) else none then λ r. further b τ fuel (combine b o.0 (h v) r.0) r.1)
        (λ o.
        ap (λ (t : Option (Y × List Lexeme)). let_some t else none then λ r. further b τ fuel (combine b o.0 (h v) r.0) r.1) (term_image fuel o.1)
        ∙ image_then both_of both_of (term a σ fuel o.1) (λ r. further a σ fuel (combine a o.0 v r.0) r.1)
        (λ r. further b τ fuel (combine b o.0 (h v) r.0) r.1)
        (λ r. ap (λ (w : Y). further b τ fuel w r.1) (combined o.0 v r.0) ∙ further_image fuel (combine a o.0 v r.0) r.1))

  -- WHAT A LINE IS WORTH, in one kind of values and in the other
  pub evaluate_image : (before : Text) (xs : List Lexeme) → evaluate b τ before xs ≡ image h (evaluate a σ before xs)
  unfolding evaluate both_of
  evaluate_image before xs =
      then_image h (behind before xs)
      (λ ys. let_some (expression a σ (fuel_for ys) ys) else none then λ r. let_some (behind (bytes ";") r.1) else none then λ rest. when is_empty rest then some r.0 else none)
      (λ ys. let_some (expression b τ (fuel_for ys) ys) else none then λ r. let_some (behind (bytes ";") r.1) else none then λ rest. when is_empty rest then some r.0 else none)
      (λ ys.
      ap (λ (o : Option (Y × List Lexeme)). let_some o else none then λ r. let_some (behind (bytes ";") r.1) else none then λ rest. when is_empty rest then some r.0 else none)
      (expression_image (fuel_for ys) ys)
      ∙ image_then both_of h (expression a σ (fuel_for ys) ys)
      (λ r. let_some (behind (bytes ";") r.1) else none then λ rest. when is_empty rest then some r.0 else none)
      (λ r. let_some (behind (bytes ";") r.1) else none then λ rest. when is_empty rest then some r.0 else none)
      (λ r. then_image h (behind (bytes ";") r.1) (λ rest. when is_empty rest then some r.0 else none) (λ rest. when is_empty rest then some (h r.0) else none)
      (λ rest. if_image h (is_empty rest) (some r.0) (some (h r.0)) refl)))

-- ---- whether it is worth anything

abbrev nothing : Arithmetic (Unit {0})
nothing = record { sum = λ v w. tt; difference = λ v w. tt; number = λ z. tt }

unvalued : {X : Type 0} (a : Arithmetic X) (σ : Text → X) (before : Text) (xs : List Lexeme)
    → is_some (evaluate nothing (λ x. tt) before xs) ≡ is_some (evaluate a σ before xs)
unvalued a σ before xs =
    ap is_some (evaluate_image a nothing (λ v. tt) (λ v w. refl) (λ v w. refl) (λ z. refl) σ (λ x. tt) (λ x. refl) before xs)
    ∙ is_some_image (λ v. tt) (evaluate a σ before xs)

-- A LINE IS READ OR NOT, whatever the values are
pub read_alike : {X Y : Type 0} (a : Arithmetic X) (b : Arithmetic Y) (σ : Text → X) (τ : Text → Y) (before : Text) (xs : List Lexeme)
    → is_some (evaluate a σ before xs) ≡ is_some (evaluate b τ before xs)
read_alike a b σ τ before xs = sym (unvalued a σ before xs) ∙ unvalued b τ before xs
