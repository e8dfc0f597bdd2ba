-- As many sweeps as there are lines are enough: what they reach, another sweep leaves as it is (`reached_all`). Assumes nothing.
use Prim.Native.Nat.{ℕ, zero, suc, ◌+◌, ◌<◌, ◌≤◌}
use native.Mathlib.Omega.{arith}
use mathlib.Core.Path.{◌≡◌, refl, sym, ap, ◌∙◌}
use mathlib.Core.Logic.{◌⊎◌, inl, inr, ⊎_elim}
use mathlib.Core.Bool.{Bool, true, false}
use mathlib.Core.List.{List, [], ◌∷◌}
use lib.ListN.{length, get_or, set, replicate, length-set, length-replicate}
use Rattle.reference.specs.Control.{when◌then◌else◌}
use Rattle.reference.proofs.Cases.{by-if, true-false}
use Rattle.cautions.specs.Forms.{reach, sweep, sweeps}
use Rattle.cautions.proofs.Stepping.{sweeps_rest}

-- how many are reached
marked : List Bool → ℕ
marked [] = 0
marked (true ∷ bs) = suc (marked bs)
marked (false ∷ bs) = marked bs

marked_le : (bs : List Bool) → marked bs ≤ length bs
unfolding marked
marked_le [] = omega arith
marked_le (true ∷ bs) = let r = marked_le bs in omega (arith, r)
marked_le (false ∷ bs) = let r = marked_le bs in omega (arith, r)

-- the second is the first, or has more
More : List Bool → List Bool → Type 0
More a b = (b ≡ a) ⊎ (marked a < marked b)

more_trans : (a b c : List Bool) → More a b → More b c → More a c
unfolding More
more_trans a b c p q =
    ⊎_elim (λ (e : b ≡ a). ⊎_elim (λ (f : c ≡ b). inl (f ∙ e)) (λ (h : marked b < marked c). (let z : marked b ≡ marked a = ap marked e in inr (omega (arith, h, z)))) q)
    (λ (h : marked a < marked b). ⊎_elim (λ (f : c ≡ b). (let z : marked c ≡ marked b = ap marked f in inr (omega (arith, h, z))))
    (λ (g : marked b < marked c). inr (omega (arith, h, g))) q) p

more_set : (bs : List Bool) (k : ℕ) → More bs (set bs k true)
unfolding More marked
more_set [] k = inl refl
more_set (true ∷ bs) zero = inl refl
more_set (false ∷ bs) zero = inr (omega arith)
more_set (true ∷ bs) (suc k) =
    ⊎_elim (λ (e : set bs k true ≡ bs). inl (ap (λ (cs : List Bool). true ∷ cs) e)) (λ (h : marked bs < marked (set bs k true)). inr (omega (arith, h))) (more_set bs k)
more_set (false ∷ bs) (suc k) =
    ⊎_elim (λ (e : set bs k true ≡ bs). inl (ap (λ (cs : List Bool). false ∷ cs) e)) (λ (h : marked bs < marked (set bs k true)). inr (omega (arith, h))) (more_set bs k)

more_reach : (ks : List ℕ) (bs : List Bool) → More bs (reach ks bs)
unfolding reach More
more_reach [] bs = inl refl
more_reach (k ∷ ks) bs = more_trans bs (set bs k true) (reach ks (set bs k true)) (more_set bs k) (more_reach ks (set bs k true))

more_sweep : (k : ℕ) (onward : List (List ℕ)) (bs : List Bool) → More bs (sweep k onward bs)
unfolding sweep More
more_sweep k [] bs = inl refl
more_sweep k (ks ∷ onward) bs =
    more_trans bs (when get_or bs k false then reach ks bs else bs) _
    (by-if (λ (cs : List Bool). More bs cs) (λ e. more_reach ks bs) (λ e. inl refl))
    (more_sweep (suc k) onward _)

-- ---- as long as before

reach-length : (ks : List ℕ) (bs : List Bool) → length (reach ks bs) ≡ length bs
unfolding reach
reach-length [] bs = refl
reach-length (k ∷ ks) bs = reach-length ks (set bs k true) ∙ length-set bs k true

sweep-length : (k : ℕ) (onward : List (List ℕ)) (bs : List Bool) → length (sweep k onward bs) ≡ length bs
unfolding sweep
sweep-length k [] bs = refl
sweep-length k (ks ∷ onward) bs =
    sweep-length (suc k) onward _ ∙ by-if (λ (cs : List Bool). length cs ≡ length bs) (λ e. reach-length ks bs) (λ e. refl)

-- ---- enough

-- where no more than n are not reached yet
enough : (n : ℕ) (onward : List (List ℕ)) (bs : List Bool) → length bs ≤ n + marked bs
    → sweep 0 onward (sweeps n onward bs) ≡ sweeps n onward bs
unfolding sweeps More
enough zero onward bs h =
    ⊎_elim (λ (e : sweep 0 onward bs ≡ bs). e)
    (λ (m : marked bs < marked (sweep 0 onward bs)).
    (let a = marked_le (sweep 0 onward bs) in let b = sweep-length 0 onward bs in absurd (omega (arith, a, b, m))))
    (more_sweep 0 onward bs)
enough (suc n) onward bs h =
    ⊎_elim
    (λ (e : sweep 0 onward bs ≡ bs).
    (let all : sweeps n onward (sweep 0 onward bs) ≡ bs = ap (sweeps n onward) e ∙ sweeps_rest n onward bs e in
    ap (sweep 0 onward) all ∙ e ∙ sym all))
    (λ (m : marked bs < marked (sweep 0 onward bs)).
    (let b = sweep-length 0 onward bs in enough n onward (sweep 0 onward bs) (omega (arith, b, m))))
    (more_sweep 0 onward bs)

-- where none is reached none will be
idle : (bs : List Bool) → marked bs ≡ 0 → (k : ℕ) → get_or bs k false ≡ false
unfolding marked
idle [] e k = refl
idle (true ∷ bs) e k = absurd (omega arith)
idle (false ∷ bs) e zero = refl
idle (false ∷ bs) e (suc k) = idle bs e k

idle_sweep : (k : ℕ) (onward : List (List ℕ)) (bs : List Bool) → marked bs ≡ 0 → sweep k onward bs ≡ bs
unfolding sweep
idle_sweep k [] bs e = refl
idle_sweep k (ks ∷ onward) bs e =
    ap (sweep (suc k) onward) (by-if (λ (cs : List Bool). cs ≡ bs) (λ f. absurd (true-false f (idle bs e k))) (λ f. refl)) ∙ idle_sweep (suc k) onward bs e

-- AS MANY SWEEPS AS LINES REACH ALL THAT CAN BE REACHED, of the lines and the caller
pub reached_all : (n : ℕ) (onward : List (List ℕ)) (first : List ℕ)
    → let seen = sweeps n onward (reach first (replicate (suc n) false)) in sweep 0 onward seen ≡ seen
reached_all n onward first = go (marked begun) refl
  where
    begun : List Bool
    begun = reach first (replicate (suc n) false)

    go : (m : ℕ) → marked begun ≡ m → sweep 0 onward (sweeps n onward begun) ≡ sweeps n onward begun
    go zero e =
        let rest = idle_sweep 0 onward begun e in
        ap (sweep 0 onward) (sweeps_rest n onward begun rest) ∙ rest ∙ sym (sweeps_rest n onward begun rest)
    go (suc m) e =
        let long : length begun ≡ suc n = reach-length first (replicate (suc n) false) ∙ length-replicate (suc n) false in
        enough n onward begun (omega (arith, long, e))
