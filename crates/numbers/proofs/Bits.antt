-- Two's complement, over any width: the bits of a sum and of a difference are the wrapped sum and difference of the bits. Assumes nothing.
use Rattle.std.proofs.Common.{◌≡◌, ℕ, zero, suc, ◌+◌, ◌-◌, ◌%◌, ◌^◌, ◌<◌, ◌≤◌, ℤ, pos, negsuc, ◌+ℤ◌, ◌-ℤ◌, sym, refl, ap, ◌∙◌, add-zero, add-suc, mod-lt, mod-eq_of_lt, arith, pow_pos}
use native.Mathlib.Nat.{zero-mod, mod_self, suc-mod, add-mod-mod}
use native.Mathlib.Decide.{dec_lt}
use mathlib.Core.Logic.{by_cases}
use lib.IntN.{suc_ℤ, pred_ℤ, suc-pred, +ℤ_idr, +ℤ-suc_ℤ, -ℤ-+ℤ_cancel}
use Rattle.numbers.specs.Bits.{bits_of}

-- ---- one more, modulo m

module _ (m : ℕ) where
  suc_mod-last : (x : ℕ) → x < m → (m ≤ suc x) → suc x % m ≡ 0
  suc_mod-last x h l = let e : suc x ≡ m = omega arith in rw e (mod_self m)

  suc_mod_inj : (x y : ℕ) → x < m → y < m → suc x % m ≡ suc y % m → x ≡ y
  suc_mod_inj x y hx hy e =
      by_cases (dec_lt (suc x) m)
      (λ kx. by_cases (dec_lt (suc y) m)
      (λ ky. omega (arith, mod-eq_of_lt kx, mod-eq_of_lt ky))
      (λ ky. omega (arith, mod-eq_of_lt kx, suc_mod-last y hy (omega arith))))
      (λ kx. by_cases (dec_lt (suc y) m)
      (λ ky. omega (arith, mod-eq_of_lt ky, suc_mod-last x hx (omega arith)))
      (λ ky. omega arith))

  suc-add_mod : (x c : ℕ) → (x + suc c) % m ≡ suc ((x + c) % m) % m
  suc-add_mod x c = rw add-suc (suc-mod (x + c) m)

  add_mod_inj : (x y c : ℕ) → x < m → y < m → (x + c) % m ≡ (y + c) % m → x ≡ y
  add_mod_inj x y zero hx hy e = sym (mod-eq_of_lt hx) ∙ (rw (add-zero x, add-zero y) at e) ∙ mod-eq_of_lt hy
  add_mod_inj x y (suc c) hx hy e =
      add_mod_inj x y c hx hy
      (suc_mod_inj _ _ (mod-lt _ (omega arith)) (mod-lt _ (omega arith)) (sym (suc-add_mod x c) ∙ e ∙ suc-add_mod y c))

-- ---- the bits of an integer

module _ (k : ℕ) where
  pub bits_below : (z : ℤ) → bits_of k z < 2 ^ k
  unfolding bits_of
  bits_below (pos n) = mod-lt n (pow_pos k)
  bits_below (negsuc n) = omega (arith, pow_pos k)

  bits_zero : bits_of k (pos 0) ≡ 0
  unfolding bits_of
  bits_zero = zero-mod (2 ^ k)

  bits_suc : (z : ℤ) → bits_of k (suc_ℤ z) ≡ suc (bits_of k z) % 2 ^ k
  unfolding bits_of
  bits_suc (pos n) = suc-mod n (2 ^ k)
  bits_suc (negsuc zero) =
      let e : suc (2 ^ k - 1) ≡ 2 ^ k = omega (arith, pow_pos k) in rw (zero-mod, e, mod_self) refl
  bits_suc (negsuc (suc n)) =
      let r : n % 2 ^ k < 2 ^ k = mod-lt n (pow_pos k) in
      by_cases (dec_lt (suc (n % 2 ^ k)) (2 ^ k))
      (λ h.
      let e : suc (2 ^ k - suc (suc (n % 2 ^ k))) ≡ 2 ^ k - suc (n % 2 ^ k) = omega arith in
      rw (suc-mod n (2 ^ k), mod-eq_of_lt h, e) (sym (mod-eq_of_lt (omega (arith, pow_pos k)))))
      (λ h.
      let e : suc (2 ^ k - 1) ≡ 2 ^ k = omega (arith, pow_pos k) in
      rw (suc-mod n (2 ^ k), suc_mod-last (2 ^ k) (n % 2 ^ k) r (omega arith), e, mod_self) (omega arith))

  -- the law at b - 1, from the law at b
  add-pred : (a b : ℤ) → bits_of k (a +ℤ b) ≡ (bits_of k a + bits_of k b) % 2 ^ k → bits_of k (a +ℤ pred_ℤ b) ≡ (bits_of k a + bits_of k (pred_ℤ b)) % 2 ^ k
  add-pred a b e =
      suc_mod_inj (2 ^ k) _ _ (bits_below (a +ℤ pred_ℤ b)) (mod-lt _ (pow_pos k))
      (sym (bits_suc (a +ℤ pred_ℤ b))
      ∙ ap (bits_of k) (sym (+ℤ-suc_ℤ a (pred_ℤ b)) ∙ ap (λ (z : ℤ). a +ℤ z) (suc-pred b))
      ∙ e
      ∙ ap (λ (n : ℕ). (bits_of k a + n) % 2 ^ k) (ap (bits_of k) (sym (suc-pred b)) ∙ bits_suc (pred_ℤ b))
      ∙ add-mod-mod _ _ _
      ∙ suc-add_mod (2 ^ k) (bits_of k a) (bits_of k (pred_ℤ b)))

  add-pos : (a : ℤ) (n : ℕ) → bits_of k (a +ℤ pos n) ≡ (bits_of k a + bits_of k (pos n)) % 2 ^ k
  add-pos a zero = rw (+ℤ_idr, bits_zero, add-zero) (sym (mod-eq_of_lt (bits_below a)))
  add-pos a (suc n) =
      ap (bits_of k) (+ℤ-suc_ℤ a (pos n))
      ∙ bits_suc (a +ℤ pos n)
      ∙ ap (λ (x : ℕ). suc x % 2 ^ k) (add-pos a n)
      ∙ sym (suc-add_mod (2 ^ k) (bits_of k a) (bits_of k (pos n)))
      ∙ sym (add-mod-mod _ _ _)
      ∙ ap (λ (x : ℕ). (bits_of k a + x) % 2 ^ k) (sym (bits_suc (pos n)))

  add-negsuc : (a : ℤ) (n : ℕ) → bits_of k (a +ℤ negsuc n) ≡ (bits_of k a + bits_of k (negsuc n)) % 2 ^ k
  add-negsuc a zero = add-pred a (pos zero) (add-pos a zero)
  add-negsuc a (suc n) = add-pred a (negsuc n) (add-negsuc a n)

  pub bits_add : (a b : ℤ) → bits_of k (a +ℤ b) ≡ (bits_of k a + bits_of k b) % 2 ^ k
  bits_add a (pos n) = add-pos a n
  bits_add a (negsuc n) = add-negsuc a n

  pub bits_sub : (a b : ℤ) (x : ℕ) → x < 2 ^ k → (x + bits_of k b) % 2 ^ k ≡ bits_of k a → x ≡ bits_of k (a -ℤ b)
  bits_sub a b x h e =
      add_mod_inj (2 ^ k) x (bits_of k (a -ℤ b)) (bits_of k b) h (bits_below (a -ℤ b))
      (e ∙ ap (bits_of k) (sym (-ℤ-+ℤ_cancel a b)) ∙ bits_add (a -ℤ b) b)
