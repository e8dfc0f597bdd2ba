-- A formula reckoned in pairs and in numbers: what keeps sums, differences and numbers keeps what a listing returns. So a formula returns
-- m · v + c, modulo 2^64, for every start value v of the chosen register, (m, c) being what it returns in pairs; and in the profile it
-- returns a pair, whose m is the same for all lists. Assumes nothing.
use Prim.Native.Nat.{ℕ, ◌+◌, ◌*◌, ◌%◌, ◌^◌}
use native.Mathlib.Omega.{arith}
use native.Mathlib.Nat.{mod-mod, mod-eq_of_lt}
use mathlib.Core.Path.{◌≡◌, refl, sym, ap, ◌∙◌}
use mathlib.Core.Bool.{Bool, true, false}
use mathlib.Core.List.{List, [], ◌∷◌}
use mathlib.Core.Option.{Option, none, some}
use lib.IntN.{ℤ}
use Rattle.reference.specs.Control.{when◌then◌else◌, let_some◌else◌then◌}
use Rattle.reference.specs.Lists.{is_some}
use Rattle.reference.specs.Text.{Text, bytes, ◌≟◌}
use Rattle.reference.specs.Listing.{Token, Listing}
use Rattle.reference.specs.Shapes.{is_kw}
use Rattle.reference.specs.Evaluators.{Arithmetic, plus, minus, of_integer, modulo, wide, lexemes, evaluate}
use Rattle.reference.specs.Straight.{assign, assigned_value, returned_value, line_step, execute, returned, breaks}
use Rattle.reference.proofs.Cases.{some_inj, none-some}
use Rattle.reference.proofs.Attempts.{is_some_some}
use Rattle.formula.specs.Values.{Pair}
use Rattle.straight.proofs.Values.{image, is_some_image, image_then, then_image, evaluate_image}
use Rattle.straight.proofs.Shown.{of_below}
use Rattle.straight.proofs.Flow.{straight_returns}
use Rattle.straight.proofs.Profile.{straight_of}
use Rattle.solving.proofs.Affine.{affine_variable, affine-constant, affine-sum, affine-difference}
use Rattle.start.specs.Start.{Entry, listed, start_values}
use Rattle.start.specs.Pairs.{affine, start_pairs, at_start, returned_pair}

-- ---- listings in one kind of values and in another

if_image : {A B : Type 0} (g : A → B) (c : Bool) (o p : Option A) {o' p' : Option B} → o' ≡ image g o → p' ≡ image g p
    → (when c then o' else p') ≡ image g (when c then o else p)
unfolding when◌then◌else◌
if_image g true o p e f = e
if_image g false o p e f = f

module _ {X Y : Type 0} (a : Arithmetic X) (b : Arithmetic Y) (h : X → Y)
    (sums : (v w : X) → h (a.sum v w) ≡ b.sum (h v) (h w))
    (differences : (v w : X) → h (a.difference v w) ≡ b.difference (h v) (h w))
    (numbers : (z : ℤ) → h (a.number z) ≡ b.number z) where
  assign_image : (σ : Text → X) (τ : Text → Y) → ((x : Text) → h (σ x) ≡ τ x) → (x : Text) (v : X) (y : Text)
      → h (assign x v σ y) ≡ assign x (h v) τ y
  unfolding when◌then◌else◌
  assign_image σ τ registers x v y = go (y ≟ x)
    where
      go : (c : Bool) → h (when c then v else σ y) ≡ (when c then h v else τ y)
      go true = refl
      go false = registers y

  line_image : (σ : Text → X) (τ : Text → Y) → ((x : Text) → h (σ x) ≡ τ x)
      → (k : (Text → X) → Option X) (k' : (Text → Y) → Option Y)
      → ((ρ : Text → X) (ρ' : Text → Y) → ((x : Text) → h (ρ x) ≡ ρ' x) → k' ρ' ≡ image h (k ρ))
      → (ts : List Token) → line_step b τ ts k' ≡ image h (line_step a σ ts k)
  unfolding line_step assigned_value returned_value
  line_image σ τ registers k k' more [] = refl
  line_image σ τ registers k k' more (t ∷ ts) =
      if_image h (is_kw (bytes "return") t) (evaluate a σ (bytes " ") (lexemes ts)) _ (worth (bytes " "))
      (then_image h (wide t)
      (λ x. let_some (evaluate a σ (bytes " = ") (lexemes ts)) else none then λ v. k (assign x v σ))
      (λ x. let_some (evaluate b τ (bytes " = ") (lexemes ts)) else none then λ v. k' (assign x v τ))
      (λ x.
      ap (λ (o : Option Y). let_some o else none then λ v. k' (assign x v τ)) (worth (bytes " = "))
      ∙ image_then h h (evaluate a σ (bytes " = ") (lexemes ts)) (λ v. k (assign x v σ)) (λ v. k' (assign x v τ))
      (λ v. more (assign x v σ) (assign x (h v) τ) (assign_image σ τ registers x v))))
    where
      worth : (before : Text) → evaluate b τ before (lexemes ts) ≡ image h (evaluate a σ before (lexemes ts))
      worth before = evaluate_image a b h sums differences numbers σ τ registers before (lexemes ts)

  -- WHAT A LISTING RETURNS, in one kind of values and in the other
  pub execute_image : (lines : Listing) (σ : Text → X) (τ : Text → Y) → ((x : Text) → h (σ x) ≡ τ x)
      → execute b τ lines ≡ image h (execute a σ lines)
  unfolding execute
  execute_image [] σ τ registers = refl
  execute_image (l ∷ ls) σ τ registers =
      line_image σ τ registers (λ ρ. execute a ρ ls) (λ ρ. execute b ρ ls) (λ ρ ρ' e. execute_image ls ρ ρ' e) l.tokens

-- ---- numbers reduced modulo 2^64

plus_reduced : (v w : ℕ) → plus v w % 2 ^ 64 ≡ plus (v % 2 ^ 64) (w % 2 ^ 64)
unfolding plus
plus_reduced v w = omega arith

minus_reduced : (v w : ℕ) → minus v w % 2 ^ 64 ≡ minus (v % 2 ^ 64) (w % 2 ^ 64)
unfolding minus
minus_reduced v w = omega arith

number_reduced : (z : ℤ) → of_integer z % 2 ^ 64 ≡ of_integer z
number_reduced z = mod-eq_of_lt (of_below z)

-- ---- pairs at a start value

minus-back : (v w : ℕ) → (minus v w + w) % 2 ^ 64 ≡ v % 2 ^ 64
unfolding minus
minus-back v w = omega arith

module _ (v : ℕ) where
  sum_at : (p q : Pair) → at_start v (affine.sum p q) ≡ plus (at_start v p) (at_start v q)
  unfolding at_start plus
  sum_at p q =
      sym (affine-sum (2 ^ 64) (λ x. (p.0 * x + p.1) % 2 ^ 64) (λ x. (q.0 * x + q.1) % 2 ^ 64) p.0 p.1 q.0 q.1
      (λ x. mod-mod _ _) (λ x. mod-mod _ _) (plus p.0 q.0) (plus p.1 q.1) (mod-mod _ _) (mod-mod _ _) v)

  difference_at : (p q : Pair) → at_start v (affine.difference p q) ≡ minus (at_start v p) (at_start v q)
  unfolding at_start
  difference_at p q =
      sym (affine-difference 64 (λ x. (p.0 * x + p.1) % 2 ^ 64) (λ x. (q.0 * x + q.1) % 2 ^ 64) p.0 p.1 q.0 q.1
      (λ x. mod-mod _ _) (λ x. mod-mod _ _)
      (λ x. minus ((p.0 * x + p.1) % 2 ^ 64) ((q.0 * x + q.1) % 2 ^ 64)) (λ x. minus-back _ _)
      (minus p.0 q.0) (minus p.1 q.1) (minus-back _ _) (minus-back _ _) v)
      ∙ (unfold minus in mod-mod _ _)

  number_at : (z : ℤ) → at_start v (affine.number z) ≡ of_integer z
  unfolding at_start
  number_at z = sym (affine-constant (2 ^ 64) (of_integer z) v) ∙ number_reduced z

  module _ (chosen : Text) (es : List Entry) where
    register_at : (x : Text) → at_start v (start_pairs chosen es x) ≡ start_values chosen es v x % 2 ^ 64
    unfolding at_start when◌then◌else◌
    register_at x = go (x ≟ chosen)
      where
        go : (c : Bool) → at_start v (when c then (1, 0) else (0, listed es x)) ≡ (when c then v else listed es x) % 2 ^ 64
        go true = sym (affine_variable (2 ^ 64) v)
        go false = sym (affine-constant (2 ^ 64) (listed es x) v)

    -- what is returned in pairs, at v, is what is returned in numbers, reduced
    returned_at : (lines : Listing)
        → image (at_start v) (returned_pair chosen es lines) ≡ image (λ n. n % 2 ^ 64) (execute modulo (start_values chosen es v) lines)
    returned_at lines =
        sym (execute_image affine modulo (at_start v) sum_at difference_at number_at lines (start_pairs chosen es)
        (λ x. start_values chosen es v x % 2 ^ 64) register_at)
        ∙ execute_image modulo modulo (λ n. n % 2 ^ 64) plus_reduced minus_reduced number_reduced lines (start_values chosen es v)
        (λ x. start_values chosen es v x % 2 ^ 64) (λ x. refl)

-- A FORMULA IS m · v + c, modulo 2^64
pub formula_is : (chosen : Text) (es : List Entry) (lines : Listing) (m c : ℕ) → returned_pair chosen es lines ≡ some (m, c)
    → (v : ℕ) → returned (start_values chosen es v) lines ≡ (m * v + c) % 2 ^ 64
unfolding returned let_some◌else◌then◌ at_start
formula_is chosen es lines m c e v =
    go (execute modulo (start_values chosen es v) lines) (sym (ap (image (at_start v)) e) ∙ returned_at v chosen es lines)
  where
    go : (o : Option ℕ) → some ((m * v + c) % 2 ^ 64) ≡ image (λ n. n % 2 ^ 64) o
        → (let_some o else 0 then λ n. n) % 2 ^ 64 ≡ (m * v + c) % 2 ^ 64
    go none e = absurd (none-some (sym e))
    go (some w) e = some_inj (sym e)

-- ---- in the profile

-- A LISTING IN THE PROFILE RETURNS A PAIR
pub in_profile-returns : (lines : Listing) → breaks lines ≡ none → (chosen : Text) (es : List Entry)
    → is_some (returned_pair chosen es lines) ≡ true
in_profile-returns lines e chosen es =
    sym (is_some_image (at_start 0) (returned_pair chosen es lines))
    ∙ ap is_some (returned_at 0 chosen es lines)
    ∙ is_some_image (λ n. n % 2 ^ 64) (execute modulo (start_values chosen es 0) lines)
    ∙ straight_returns (straight_of lines e).1 (start_values chosen es 0)

-- ---- the multiplier

-- multipliers alone: the chosen register has 1, any other and every number 0
abbrev multipliers : Arithmetic ℕ
multipliers = record { sum = plus; difference = minus; number = λ z. 0 }

abbrev first : Pair → ℕ
first p = p.0

module _ (chosen : Text) (lines : Listing) where
  -- they do not depend on the list
  multiplier_is : (es : List Entry) → execute multipliers (assign chosen 1 (λ x. 0)) lines ≡ image first (returned_pair chosen es lines)
  multiplier_is es =
      execute_image affine multipliers first (λ p q. refl) (λ p q. refl) (λ z. refl) lines (start_pairs chosen es) (assign chosen 1 (λ x. 0))
      (assign_image affine multipliers first (λ p q. refl) (λ p q. refl) (λ z. refl) (λ x. (0, listed es x)) (λ x. 0) (λ x. refl) chosen (1, 0))

  same_multiplier : (es fs : List Entry) (p q : Pair) → returned_pair chosen es lines ≡ some p → returned_pair chosen fs lines ≡ some q → q.0 ≡ p.0
  same_multiplier es fs p q e f = some_inj (sym (ap (image first) f) ∙ sym (multiplier_is fs) ∙ multiplier_is es ∙ ap (image first) e)

  -- A FORMULA IN THE PROFILE HAS A MULTIPLIER FOR THE REGISTER, whatever the list
  pub formula_multiplier : breaks lines ≡ none
      → (m : ℕ) × ((es : List Entry) → (c : ℕ) × ((v : ℕ) → returned (start_values chosen es v) lines ≡ (m * v + c) % 2 ^ 64))
  formula_multiplier fits =
      let in_pairs : (es : List Entry) → (p : Pair) × (returned_pair chosen es lines ≡ some p) =
      λ es. is_some_some (returned_pair chosen es lines) (in_profile-returns lines fits chosen es) in
      let p = in_pairs [] in (
        p.0.0,
        λ es.
            (let q = in_pairs es in (
              q.0.1,
              λ v.
                  formula_is chosen es lines q.0.0 q.0.1 q.1 v
                  ∙ ap (λ (m : ℕ). (m * v + q.0.1) % 2 ^ 64) (same_multiplier [] es p.0 q.0 p.1 q.1),
            )),
      )
