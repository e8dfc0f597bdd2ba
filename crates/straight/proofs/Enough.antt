-- The evaluators (crate reference, specs/Evaluators.antt) on any values: what is left is shorter, and fuel that is enough changes nothing; so they are
-- said without fuel. Assumes nothing.
use Prim.Native.Nat.{ℕ, zero, suc, ◌+◌, ◌≤◌, ◌<◌}
use native.Mathlib.Omega.{arith}
use mathlib.Core.Path.{◌≡◌, refl, ap, ◌∙◌}
use mathlib.Core.List.{List, [], ◌∷◌}
use mathlib.Core.Option.{Option, none, some}
use lib.Dec.{eqb}
use lib.IntN.{ℤ}
use lib.ListN.{length}
use Rattle.reference.specs.Control.{when◌then◌else◌, let_some◌else◌then◌}
use Rattle.reference.specs.Text.{Text, bytes}
use Rattle.reference.specs.Evaluators.{Arithmetic, Lexeme, sign, reg, num, junk, behind, Operator, operator, fuel_for, combine, expression, term, further}
use Rattle.reference.proofs.Cases.{by-some, some_inj, none-some, if_some, bind-some}

-- ---- what is left

pub behind-length : (t : Text) (xs rest : List Lexeme) → behind t xs ≡ some rest → length xs ≡ length t + length rest
unfolding behind
behind-length [] xs rest e = let h : length xs ≡ length rest = ap length (some_inj e) in omega arith
behind-length (c ∷ cs) [] rest e = absurd (none-some e)
behind-length (c ∷ cs) (sign b ∷ xs) rest e = omega (arith, behind-length cs xs rest (if_some e).1)
behind-length (c ∷ cs) (reg x ∷ xs) rest e = absurd (none-some e)
behind-length (c ∷ cs) (num z ∷ xs) rest e = absurd (none-some e)
behind-length (c ∷ cs) (junk ∷ xs) rest e = absurd (none-some e)

pub operator-shorter : (xs : List Lexeme) (o : Operator × List Lexeme) → operator xs ≡ some o → length o.1 < length xs
unfolding operator
operator-shorter xs o =
    by-some (λ (r : Option (Operator × List Lexeme)). r ≡ some o → length o.1 < length xs)
    (λ n. by-some (λ (r : Option (Operator × List Lexeme)). r ≡ some o → length o.1 < length xs)
    (λ m e. absurd (none-some e))
    (λ rest b e. (let h : length rest ≡ length o.1 = ap (λ (q : Operator × List Lexeme). length q.1) (some_inj e) in omega (arith, behind-length (bytes " - ") xs rest b))))
    (λ rest b e. (let h : length rest ≡ length o.1 = ap (λ (q : Operator × List Lexeme). length q.1) (some_inj e) in omega (arith, behind-length (bytes " + ") xs rest b)))

module _ {X : Type 0} (a : Arithmetic X) (σ : Text → X) where
  abbrev Read : Type 0
  Read = X × List Lexeme

  same_rest : (r s : Read) → ◌≡◌ {A = Option Read} (some r) (some s) → length r.1 ≡ length s.1
  same_rest r s e = ap (λ (q : Read). length q.1) (some_inj e)

  mutual
    unfolding expression

    pub expression-shorter : (fuel : ℕ) (xs : List Lexeme) (r : Read) → expression a σ fuel xs ≡ some r → length r.1 < length xs
    expression-shorter zero xs r e = absurd (none-some e)
    expression-shorter (suc fuel) xs r e =
        let t = bind-some e in omega (arith, term-shorter fuel xs t.0 t.1, further-shorter fuel t.0.0 t.0.1 r t.2)

    pub term-shorter : (fuel : ℕ) (xs : List Lexeme) (r : Read) → term a σ fuel xs ≡ some r → length r.1 < length xs
    term-shorter zero xs r e = absurd (none-some e)
    term-shorter (suc fuel) [] r e = absurd (none-some e)
    term-shorter (suc fuel) (reg x ∷ xs) r e = omega (arith, same_rest (σ x, xs) r e)
    term-shorter (suc fuel) (num z ∷ xs) r e = omega (arith, same_rest (a.number z, xs) r e)
    term-shorter (suc fuel) (junk ∷ xs) r e = absurd (none-some e)
    term-shorter (suc fuel) (sign c ∷ xs) r e =
        let t = bind-some (if_some e).1 in
        let q = bind-some t.2 in
        omega (arith, expression-shorter fuel xs t.0 t.1, behind-length (bytes ")") t.0.1 q.0 q.1, same_rest (t.0.0, q.0) r q.2)

    pub further-shorter : (fuel : ℕ) (v : X) (xs : List Lexeme) (r : Read) → further a σ fuel v xs ≡ some r → length r.1 ≤ length xs
    further-shorter zero v xs r = λ e. absurd (none-some e)
    further-shorter (suc fuel) v xs r =
        by-some (λ (o : Option Read). o ≡ some r → length r.1 ≤ length xs)
        (λ n e. omega (arith, same_rest (v, xs) r e))
        (λ o h e.
        (let t = bind-some e in
        omega (arith, operator-shorter xs o h, term-shorter fuel o.1 t.0 t.1, further-shorter fuel _ t.0.1 r t.2)))

  -- ---- fuel that is enough

  same_let : {A : Type 0} (o : Option A) (d : Option Read) (f g : A → Option Read) → ((x : A) → o ≡ some x → f x ≡ g x)
      → (let_some o else d then f) ≡ (let_some o else d then g)
  unfolding let_some◌else◌then◌
  same_let none d f g h = refl
  same_let (some x) d f g h = h x refl

  mutual
    unfolding expression

    pub expression-enough : (m n : ℕ) (xs : List Lexeme) → length xs + length xs + 2 ≤ m → length xs + length xs + 2 ≤ n → expression a σ m xs ≡ expression a σ n xs
    expression-enough zero n xs p q = absurd (omega arith)
    expression-enough (suc m) zero xs p q = absurd (omega arith)
    expression-enough (suc m) (suc n) xs p q =
        ap (λ (o : Option Read). let_some o else none then λ r. further a σ m r.0 r.1) (term-enough m n xs (omega arith) (omega arith))
        ∙ same_let (term a σ n xs) none (λ r. further a σ m r.0 r.1) (λ r. further a σ n r.0 r.1)
        (λ r e. (let l = term-shorter n xs r e in further-enough m n r.0 r.1 (omega arith) (omega arith)))

    pub term-enough : (m n : ℕ) (xs : List Lexeme) → length xs + length xs + 1 ≤ m → length xs + length xs + 1 ≤ n → term a σ m xs ≡ term a σ n xs
    term-enough zero n xs p q = absurd (omega arith)
    term-enough (suc m) zero xs p q = absurd (omega arith)
    term-enough (suc m) (suc n) [] p q = refl
    term-enough (suc m) (suc n) (reg x ∷ xs) p q = refl
    term-enough (suc m) (suc n) (num z ∷ xs) p q = refl
    term-enough (suc m) (suc n) (junk ∷ xs) p q = refl
    term-enough (suc m) (suc n) (sign c ∷ xs) p q =
        ap (λ (o : Option Read). when eqb c 40 then (let_some o else none then λ r. let_some (behind (bytes ")") r.1) else none then λ rest. some (r.0, rest)) else none)
        (expression-enough m n xs (omega arith) (omega arith))

    pub further-enough : (m n : ℕ) (v : X) (xs : List Lexeme) → length xs + length xs + 1 ≤ m → length xs + length xs + 1 ≤ n → further a σ m v xs ≡ further a σ n v xs
    further-enough zero n v xs p q = absurd (omega arith)
    further-enough (suc m) zero v xs p q = absurd (omega arith)
    further-enough (suc m) (suc n) v xs p q =
        same_let (operator xs) (some (v, xs)) _ _
        (λ o e.
        (let l = operator-shorter xs o e in
        ap (λ (t : Option Read). let_some t else none then λ r. further a σ m (combine a o.0 v r.0) r.1) (term-enough m n o.1 (omega arith) (omega arith))
        ∙ same_let (term a σ n o.1) none (λ r. further a σ m (combine a o.0 v r.0) r.1) (λ r. further a σ n (combine a o.0 v r.0) r.1)
        (λ r t. (let k = term-shorter n o.1 r t in further-enough m n (combine a o.0 v r.0) r.1 (omega arith) (omega arith)))))

  -- ---- without fuel

  abbrev pub expression_of : List Lexeme → Option Read
  expression_of xs = expression a σ (fuel_for xs) xs

  abbrev pub term_of : List Lexeme → Option Read
  term_of xs = term a σ (fuel_for xs) xs

  abbrev pub further_of : X → List Lexeme → Option Read
  further_of v xs = further a σ (fuel_for xs) v xs

  expression-step : (n : ℕ) (xs : List Lexeme) → expression a σ (suc n) xs ≡ (let_some (term a σ n xs) else none then λ r. further a σ n r.0 r.1)
  unfolding expression
  expression-step n xs = refl

  further-step : (n : ℕ) (v : X) (xs : List Lexeme)
      → further a σ (suc n) v xs
      ≡ (let_some (operator xs) else some (v, xs) then λ o. let_some (term a σ n o.1) else none then λ r. further a σ n (combine a o.0 v r.0) r.1)
  unfolding expression
  further-step n v xs = refl

  pub expression_is : (xs : List Lexeme) → expression_of xs ≡ (let_some (term_of xs) else none then λ r. further_of r.0 r.1)
  expression_is xs =
      let n : ℕ = length xs + length xs + 2 in
      expression-enough (fuel_for xs) (suc n) xs (omega arith) (omega arith)
      ∙ expression-step n xs
      ∙ same_let (term a σ n xs) none (λ r. further a σ n r.0 r.1) (λ r. further_of r.0 r.1)
      (λ r e. (let l = term-shorter n xs r e in further-enough n (fuel_for r.1) r.0 r.1 (omega arith) (omega arith)))

  pub term_none : term_of [] ≡ none
  term_none = term-enough 2 1 [] (omega arith) (omega arith) ∙ (unfold expression in refl)

  pub term-register : (x : Text) (xs : List Lexeme) → term_of (reg x ∷ xs) ≡ some (σ x, xs)
  term-register x xs =
      let n : ℕ = length xs + length xs + 2 in
      term-enough (fuel_for (reg x ∷ xs)) (suc n) (reg x ∷ xs) (omega arith) (omega arith) ∙ (unfold expression in refl)

  pub term_number : (z : ℤ) (xs : List Lexeme) → term_of (num z ∷ xs) ≡ some (a.number z, xs)
  term_number z xs =
      let n : ℕ = length xs + length xs + 2 in
      term-enough (fuel_for (num z ∷ xs)) (suc n) (num z ∷ xs) (omega arith) (omega arith) ∙ (unfold expression in refl)

  pub term-sign : (c : ℕ) (xs : List Lexeme)
      → term_of (sign c ∷ xs)
      ≡ (when eqb c 40 then (let_some (expression_of xs) else none then λ r. let_some (behind (bytes ")") r.1) else none then λ rest. some (r.0, rest)) else none)
  term-sign c xs =
      let n : ℕ = length xs + length xs + 2 in
      term-enough (fuel_for (sign c ∷ xs)) (suc n) (sign c ∷ xs) (omega arith) (omega arith) ∙ (unfold expression in refl)

  pub further_is : (v : X) (xs : List Lexeme)
      → further_of v xs ≡ (let_some (operator xs) else some (v, xs) then λ o. let_some (term_of o.1) else none then λ r. further_of (combine a o.0 v r.0) r.1)
  further_is v xs =
      let n : ℕ = length xs + length xs + 2 in
      further-enough (fuel_for xs) (suc n) v xs (omega arith) (omega arith)
      ∙ further-step n v xs
      ∙ same_let (operator xs) (some (v, xs)) _ _
      (λ o e.
      (let l = operator-shorter xs o e in
      ap (λ (t : Option Read). let_some t else none then λ r. further a σ n (combine a o.0 v r.0) r.1) (term-enough n (fuel_for o.1) o.1 (omega arith) (omega arith))
      ∙ same_let (term_of o.1) none (λ r. further a σ n (combine a o.0 v r.0) r.1) (λ r. further_of (combine a o.0 v r.0) r.1)
      (λ r t. (let k = term-shorter _ o.1 r t in further-enough n (fuel_for r.1) (combine a o.0 v r.0) r.1 (omega arith) (omega arith)))))
