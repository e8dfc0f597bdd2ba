-- Sums and differences of a · x + b, modulo 2^n, are such again: how a formula's multiplier and summand are gathered from its terms, by
-- wrapping sums and differences alone. A difference is said as `std::num` says it: with the second added to it it is the first. Assumes
-- nothing.
use Rattle.std.proofs.Common.{◌≡◌, ℕ, zero, suc, ◌+◌, ◌*◌, ◌%◌, ◌^◌, sym, refl, ap, ◌∙◌, mul-zero, mul-suc, arith, pow_pos}
use Rattle.solving.proofs.Solving.{add_same, cancel}

-- f is a · x + b, modulo m, for every x
abbrev pub Affine : ℕ → (ℕ → ℕ) → ℕ → ℕ → Type 0
Affine m f a b = (x : ℕ) → f x % m ≡ (a * x + b) % m

-- ---- numbers that are the same modulo m

sums_same : (m u v s t : ℕ) → u % m ≡ v % m → s % m ≡ t % m → (u + s) % m ≡ (v + t) % m
sums_same m u v s t e f =
    let swap : v + s ≡ s + v = omega arith in
    let back : t + v ≡ v + t = omega arith in
    add_same m u v s e ∙ ap (λ (k : ℕ). k % m) swap ∙ add_same m s t v f ∙ ap (λ (k : ℕ). k % m) back

products_same : (m u v x : ℕ) → u % m ≡ v % m → u * x % m ≡ v * x % m
products_same m u v zero e = rw (mul-zero u, mul-zero v)
products_same m u v (suc x) e = rw (mul-suc u x, mul-suc v x) (sums_same m _ _ _ _ (products_same m u v x e) e)

-- ---- terms

pub affine_variable : (m : ℕ) → Affine m (λ x. x) 1 0
affine_variable m x = ap (λ (k : ℕ). k % m) (omega arith)

pub affine-constant : (m k : ℕ) → Affine m (λ x. k) 0 k
affine-constant m k x = ap (λ (n : ℕ). n % m) (omega arith)

-- ---- sums and differences: the multiplier and the summand are those of the two, added or taken from one another with a wrap

module _ (m : ℕ) (f g : ℕ → ℕ) (a b c d : ℕ) (F : Affine m f a b) (G : Affine m g c d) where
  pub affine-sum : (p q : ℕ) → p % m ≡ (a + c) % m → q % m ≡ (b + d) % m → Affine m (λ x. f x + g x) p q
  affine-sum p q e h x =
      let same : a * x + b + (c * x + d) ≡ (a + c) * x + (b + d) = omega arith in
      sums_same m _ _ _ _ (F x) (G x)
      ∙ ap (λ (k : ℕ). k % m) same
      ∙ sym (sums_same m _ _ _ _ (products_same m p (a + c) x e) h)

module _ (n : ℕ) (f g : ℕ → ℕ) (a b c d : ℕ) (F : Affine (2 ^ n) f a b) (G : Affine (2 ^ n) g c d) where
  pub affine-difference : (h : ℕ → ℕ) → ((x : ℕ) → (h x + g x) % 2 ^ n ≡ f x % 2 ^ n)
      → (p q : ℕ) → (p + c) % 2 ^ n ≡ a % 2 ^ n → (q + d) % 2 ^ n ≡ b % 2 ^ n → Affine (2 ^ n) h p q
  affine-difference h is p q e k x =
      let same : p * x + q + (c * x + d) ≡ (p + c) * x + (q + d) = omega arith in
      cancel (2 ^ n) (h x) (p * x + q) (g x) (pow_pos n)
      (is x ∙ F x
      ∙ sym (sums_same (2 ^ n) _ _ _ _ (products_same (2 ^ n) (p + c) a x e) k)
      ∙ ap (λ (i : ℕ). i % 2 ^ n) (sym same)
      ∙ sym (sums_same (2 ^ n) _ _ _ _ refl (G x)))
