-- a · x ≡ c modulo 2^n, bit by bit, over any width n. Where a and c are even, the solutions are those of their halves at one bit less.
-- Where a is odd, the lowest bit of every solution is that of c, and the other bits solve what is left of c, halved, at one bit less.
-- Assumes nothing.
use Rattle.std.proofs.Common.{◌≡◌, ℕ, zero, suc, ◌+◌, ◌-◌, ◌*◌, ◌/◌, ◌%◌, ◌^◌, ◌<◌, ◌≤◌, sym, ap, ◌∙◌, subst, zero-le, not-suc-le-zero, mod-eq_of_lt, one-mul, pow-suc, zero-add, add-one, arith}
use Rattle.std.proofs.Common.{pow_pos, pow_mono}
use native.Mathlib.Nat.{mod-one, mod-mod, mod-add-mod, add-mul-mod_self_right}
use native.Mathlib.Nat.{sub-zero}
use lib.Arith.{mod-mul}
use lib.Pow.{mod-mod-pow}
use Rattle.solving.specs.Solutions.{Smallest, Answers, Solves}
use Rattle.std.specs.Prelude as std
use Rattle.std.specs.Prelude.{Some, None}

-- ---- numbers modulo 2^(n + 1)

-- the lowest bit, and the others
split : (n v : ℕ) → v % 2 ^ suc n ≡ (v / 2 % 2 ^ n) * 2 + v % 2
split n v = rw (pow-suc 2 n) (mod-mul v (pow_pos n) (omega arith))

split_as : (n u v b : ℕ) → b < 2 → u ≡ 2 * v + b → u % 2 ^ suc n ≡ 2 * (v % 2 ^ n) + b
split_as n u v b h e =
    let half : u / 2 ≡ v = omega arith in
    omega (arith, split n u, ap (λ (k : ℕ). k % 2 ^ n) half)

same_bit : (n u v : ℕ) → u % 2 ^ suc n ≡ v % 2 ^ suc n → u % 2 ≡ v % 2
same_bit n u v e = omega (arith, split n u, split n v)

-- ---- sums modulo m

pub add_same : (m u v h : ℕ) → u % m ≡ v % m → (u + h) % m ≡ (v + h) % m
add_same m u v h e = sym (mod-add-mod u m h) ∙ ap (λ (k : ℕ). (k + h) % m) e ∙ mod-add-mod v m h

back : (m u h : ℕ) → 0 < m → (u + h + h * (m - 1)) % m ≡ u % m
back m u h p =
    let k : h * m ≡ h + h * (m - 1) = (let e : m ≡ 1 + (m - 1) = omega arith in omega (arith, ap (λ (x : ℕ). h * x) e)) in
    let s : u + h + h * (m - 1) ≡ u + h * m = omega arith in
    rw s (add-mul-mod_self_right u h m)

pub cancel : (m u v h : ℕ) → 0 < m → (u + h) % m ≡ (v + h) % m → u % m ≡ v % m
cancel m u v h p e = sym (back m u h p) ∙ add_same m (u + h) (v + h) (h * (m - 1)) e ∙ back m v h p

-- a difference that wraps, and what was taken away
pub sub_back : (c a : ℕ) → c < 2 ^ 64 → a < 2 ^ 64 → ((c + (2 ^ 64 - a)) % 2 ^ 64 + a) % 2 ^ 64 ≡ c
sub_back c a h k =
    let s : c + (2 ^ 64 - a) + a ≡ c + 1 * 2 ^ 64 = omega arith in
    mod-add-mod (c + (2 ^ 64 - a)) (2 ^ 64) a ∙ ap (λ (m : ℕ). m % 2 ^ 64) s ∙ add-mul-mod_self_right c 1 (2 ^ 64) ∙ mod-eq_of_lt h

-- ---- a and c even

module _ (n a c : ℕ) (even : a % 2 ≡ 0) where
  product_even : (y : ℕ) → a * y ≡ 2 * (a / 2 * y)
  product_even y = let e : a ≡ 2 * (a / 2) = omega arith in omega (arith, ap (λ (k : ℕ). k * y) e)

  product_half : (y : ℕ) → a * y % 2 ^ suc n ≡ 2 * (a / 2 * y % 2 ^ n)
  product_half y = omega (arith, split_as n (a * y) (a / 2 * y) 0 (omega arith) (omega (arith, product_even y)))

  pub halves : c % 2 ≡ 0 → (y : ℕ) → Solves (suc n) a c y → Solves n (a / 2) (c / 2) y
  halves e y s = omega (arith, product_half y, split n c)

  pub doubles : c % 2 ≡ 0 → (y : ℕ) → Solves n (a / 2) (c / 2) y → Solves (suc n) a c y
  doubles e y s = omega (arith, product_half y, split n c)

  pub none_works : c % 2 ≡ 1 → (y : ℕ) → Solves (suc n) a c y → ⊥
  none_works e y s = omega (arith, same_bit n (a * y) c s, product_even y)

-- ---- a odd

-- what is left of c once the multiple of its lowest bit is taken off, halved
abbrev pub Left : ℕ → ℕ → ℕ → ℕ → Type 0
Left n a c c' = (2 * c' + c % 2 * a) % 2 ^ n ≡ c % 2 ^ n

pub left_narrow : (k n a c c' : ℕ) → Left (k + n) a c c' → Left n a c c'
left_narrow k n a c c' e =
    sym (mod-mod-pow (2 * c' + c % 2 * a) k n) ∙ ap (λ (x : ℕ). x % 2 ^ n) e ∙ mod-mod-pow c k n

module _ (n a c c' : ℕ) (odd : a % 2 ≡ 1) (left : Left (suc n) a c c') where
  times : (y : ℕ) → y * a ≡ 2 * (y * (a / 2)) + y
  times y = let e : a ≡ 2 * (a / 2) + 1 = omega arith in omega (arith, ap (λ (k : ℕ). y * k) e)

  product_is : (y : ℕ) → a * (2 * y + c % 2) % 2 ^ suc n ≡ 2 * ((a * y + c % 2 * (a / 2)) % 2 ^ n) + c % 2
  product_is y = split_as n (a * (2 * y + c % 2)) (a * y + c % 2 * (a / 2)) (c % 2) (omega arith) (omega (arith, times (c % 2)))

  left_is : c % 2 ^ suc n ≡ 2 * ((c' + c % 2 * (a / 2)) % 2 ^ n) + c % 2
  left_is = sym left ∙ split_as n (2 * c' + c % 2 * a) (c' + c % 2 * (a / 2)) (c % 2) (omega arith) (omega (arith, times (c % 2)))

  with_bit : (y : ℕ) → Solves n a c' y → Solves (suc n) a c (2 * y + c % 2)
  with_bit y s = omega (arith, product_is y, left_is, add_same (2 ^ n) (a * y) c' (c % 2 * (a / 2)) s)

  without_bit : (y : ℕ) → Solves (suc n) a c (2 * y + c % 2) → Solves n a c' y
  without_bit y s = cancel (2 ^ n) (a * y) c' (c % 2 * (a / 2)) (pow_pos n) (omega (arith, product_is y, left_is))

  bit_same : (y : ℕ) → Solves (suc n) a c y → y % 2 ≡ c % 2
  bit_same y s = omega (arith, same_bit n (a * y) c s, times y)

  pub smallest-next : (z : ℕ) → Smallest (Solves n a c') z → Smallest (Solves (suc n) a c) (2 * z + c % 2)
  smallest-next z h =
      record {
        does = with_bit z h.does;
        least = λ y lt s.
            (let bit : y % 2 ≡ c % 2 = bit_same y s in
            let parts : y ≡ 2 * (y / 2) + c % 2 = omega arith in
            h.least (y / 2) (omega arith) (without_bit (y / 2) (subst (Solves (suc n) a c) parts s)));
      }

-- modulo 1 every number works
pub smallest-zero : (a c : ℕ) → Smallest (Solves 0 a c) 0
smallest-zero a c = record { does = mod-one (a * 0) ∙ sym (mod-one c); least = λ y lt s. not-suc-le-zero lt }

-- ---- the code's steps, at width n + 1

module _ (n a c : ℕ) (fits : c < 2 ^ suc n) where
  pub left_even : c % 2 ≡ 0 → Left (suc n) a c (c / 2)
  left_even e =
      let same : 2 * (c / 2) + c % 2 * a ≡ c = omega (arith, ap (λ (k : ℕ). k * a) e) in
      ap (λ (k : ℕ). k % 2 ^ suc n) same

  pub left_odd : (d : ℕ) → a % 2 ≡ 1 → c % 2 ≡ 1 → (d + a) % 2 ^ suc n ≡ c → Left (suc n) a c (d / 2)
  left_odd d odd e w =
      let even : d % 2 ≡ 0 = omega (arith, split n (d + a)) in
      let same : 2 * (d / 2) + c % 2 * a ≡ d + a = omega (arith, ap (λ (k : ℕ). k * a) e) in
      ap (λ (k : ℕ). k % 2 ^ suc n) same ∙ w ∙ sym (mod-eq_of_lt fits)

-- ---- the loop over the bits of x: x holds the lowest i of the n bits

-- whatever solves what is left gives the higher bits
abbrev pub Rest : ℕ → ℕ → ℕ → ℕ → ℕ → ℕ → Type 0
Rest n a c i x rest = (z : ℕ) → Smallest (Solves (n - i) a rest) z → Smallest (Solves n a c) (x + 2 ^ i * z)

pub rest-first : (n a c : ℕ) → Rest n a c 0 0 c
rest-first n a c z h = rw (zero-add, one-mul) (rw sub-zero at h)

pub rest-next : (n a c i x rest rest' : ℕ) → i < n → a % 2 ≡ 1 → Left (n - i) a rest rest' → Rest n a c i x rest
    → Rest n a c (suc i) (x + 2 ^ i * (rest % 2)) rest'
rest-next n a c i x rest rest' lt odd left r z h =
    let width : n - i ≡ suc (n - suc i) = omega arith in
    let sum : x + 2 ^ i * (rest % 2) + 2 ^ suc i * z ≡ x + 2 ^ i * (2 * z + rest % 2) =
    omega (arith, ap (λ (k : ℕ). k * z) (pow-suc 2 i)) in
    rw sum
    (r (2 * z + rest % 2)
    (subst (λ (k : ℕ). Smallest (Solves k a rest) (2 * z + rest % 2)) (sym width)
    (smallest-next (n - suc i) a rest rest' odd (subst (λ (k : ℕ). Left k a rest rest') width left) z h)))

pub rest-last : (n a c x rest : ℕ) → Rest n a c n x rest → Smallest (Solves n a c) x
rest-last n a c x rest r =
    let none : n - n ≡ 0 = omega arith in
    let sum : x + 2 ^ n * 0 ≡ x = omega arith in
    subst (Smallest (Solves n a c)) sum (r 0 (subst (λ (k : ℕ). Smallest (Solves k a rest) 0) (sym none) (smallest-zero a rest)))

-- ---- a turn of that loop, in numbers of k + 1 bits

at_most : (m b : ℕ) → b < 2 → m * b ≤ m
at_most m zero h = omega arith
at_most m (suc zero) h = omega arith
at_most m (suc (suc b)) h = omega arith

pub added : (x bit rest : ℕ) → rest % 2 ≡ 1 → x + bit ≡ x + bit * (rest % 2)
added x bit rest e = omega (arith, ap (λ (k : ℕ). bit * k) e)

pub not-added : (x bit rest : ℕ) → rest % 2 ≡ 0 → x ≡ x + bit * (rest % 2)
not-added x bit rest e = omega (arith, ap (λ (k : ℕ). bit * k) e)

-- what holds before each turn; the bit of x that is next is 2^i, which wraps to 0 after the last turn if x has all k + 1 bits
pub record Turn (k a c n i x bit rest : ℕ) : Type 0 where
  pub inside : i ≤ n
  pub below : x < 2 ^ i
  pub bit_power : bit ≡ 2 ^ i % 2 ^ suc k
  pub solved : Rest n a c i x rest

module _ (k a c n : ℕ) (odd : a % 2 ≡ 1) (le : n ≤ suc k) where
  bit_is : (i x bit rest : ℕ) → i < n → Turn k a c n i x bit rest → (bit ≡ 2 ^ i) × (2 ^ i ≤ 2 ^ k)
  bit_is i x bit rest lt t =
      let few : i ≤ k = omega arith in
      let small : 2 ^ i ≤ 2 ^ k = pow_mono few in
      (t.bit_power ∙ mod-eq_of_lt (omega (arith, pow_pos k)), small)

  pub first_turn : Turn k a c n 0 0 1 c
  first_turn =
      record { inside = zero-le; below = omega arith; bit_power = sym (mod-eq_of_lt (omega (arith, pow_pos k))); solved = rest-first n a c }

  pub sum_fits : (i x bit rest : ℕ) → i < n → Turn k a c n i x bit rest → x + bit < 2 ^ suc k
  sum_fits i x bit rest lt t = omega (arith, bit_is i x bit rest lt t, t.below)

  pub next_turn : (i x bit rest x' bit' rest' : ℕ) → i < n → Turn k a c n i x bit rest
      → x' ≡ x + bit * (rest % 2) → bit' ≡ (bit + bit) % 2 ^ suc k → (2 * rest' + rest % 2 * a) % 2 ^ suc k ≡ rest
      → Turn k a c n (i + 1) x' bit' rest'
  next_turn i x bit rest x' bit' rest' lt t e f l =
      let b = bit_is i x bit rest lt t in
      let sum : x' ≡ x + 2 ^ i * (rest % 2) = e ∙ ap (λ (m : ℕ). x + m * (rest % 2)) b.0 in
      let wide : suc k ≡ (suc k - (n - i)) + (n - i) = omega arith in
      let left : Left (suc k) a rest rest' =
      sym (mod-mod (2 * rest' + rest % 2 * a) (2 ^ suc k)) ∙ ap (λ (m : ℕ). m % 2 ^ suc k) l in
      let narrow : Left (n - i) a rest rest' =
      left_narrow (suc k - (n - i)) (n - i) a rest rest' (subst (λ (m : ℕ). Left m a rest rest') wide left) in
      rw add-one
      (record {
        inside = lt;
        below = omega (arith, sum, at_most (2 ^ i) (rest % 2) (omega arith), t.below);
        bit_power = f ∙ ap (λ (m : ℕ). m % 2 ^ suc k) (omega (arith, b.0));
        solved = rw sum (rest-next n a c i x rest rest' lt odd narrow t.solved);
      })

  pub last_turn : (i x bit rest : ℕ) → n ≤ i → Turn k a c n i x bit rest → Smallest (Solves n a c) x
  last_turn i x bit rest ge t =
      let end : i ≡ n = omega (arith, t.inside) in
      rest-last n a c x rest (subst (λ (m : ℕ). Rest n a c m x rest) end t.solved)

-- ---- the loop over the zeros at the end of a, in numbers of k bits

-- the same numbers work for the halves
pub record Halved (k a c part rest n : ℕ) : Type 0 where
  pub few : n ≤ k
  pub down : (y : ℕ) → Solves k a c y → Solves n part rest y
  pub up : (y : ℕ) → Solves n part rest y → Solves k a c y

pub not_halved : (k a c : ℕ) → Halved k a c a c k
not_halved k a c = record { few = omega arith; down = λ y s. s; up = λ y s. s }

module _ (k a c part rest n : ℕ) (h : Halved k a c part rest n) where
  pub halved_again : 0 < n → part % 2 ≡ 0 → rest % 2 ≡ 0 → Halved k a c (part / 2) (rest / 2) (n - 1)
  halved_again lt e f =
      let width : n ≡ suc (n - 1) = omega arith in
      record {
        few = omega (arith, h.few);
        down = λ y s. halves (n - 1) part rest e f y (subst (λ (m : ℕ). Solves m part rest y) width (h.down y s));
        up = λ y s. h.up y (subst (λ (m : ℕ). Solves m part rest y) (sym width) (doubles (n - 1) part rest e f y s));
      }

  module _ (fits : c < 2 ^ k) where
    solves : (y : ℕ) → a * y % 2 ^ k ≡ c → Solves n part rest y
    solves y s = h.down y (s ∙ sym (mod-eq_of_lt fits))

    pub smallest-whole : (x : ℕ) → Smallest (Solves n part rest) x → Smallest (λ y. a * y % 2 ^ k ≡ c) x
    smallest-whole x m = record { does = h.up x m.does ∙ mod-eq_of_lt fits; least = λ y lt s. m.least y lt (solves y s) }

    pub none_whole : 0 < n → part % 2 ≡ 0 → rest % 2 ≡ 1 → (y : ℕ) → a * y % 2 ^ k ≡ c → ⊥
    none_whole lt e f y s =
        let width : n ≡ suc (n - 1) = omega arith in
        none_works (n - 1) part rest e f y (subst (λ (m : ℕ). Solves m part rest y) width (solves y s))

pub smallest_end : (k a c part rest : ℕ) → Halved k a c part rest 0 → c < 2 ^ k → Smallest (λ y. a * y % 2 ^ k ≡ c) 0
smallest_end k a c part rest h fits = smallest-whole k a c part rest 0 h fits 0 (smallest-zero part rest)

-- ---- with a summand

module _ (k a b w d : ℕ) (fits : d < 2 ^ k) (e : (d + b) % 2 ^ k ≡ w) (y : ℕ) where
  summand_on : a * y % 2 ^ k ≡ d → (a * y + b) % 2 ^ k ≡ w
  summand_on p = sym (mod-add-mod (a * y) (2 ^ k) b) ∙ ap (λ (m : ℕ). (m + b) % 2 ^ k) p ∙ e

  summand_off : (a * y + b) % 2 ^ k ≡ w → a * y % 2 ^ k ≡ d
  summand_off q = cancel (2 ^ k) (a * y) d b (pow_pos k) (q ∙ sym e) ∙ mod-eq_of_lt fits

pub answers_same : (P Q : ℕ → Type 0) → ((y : ℕ) → P y → Q y) → ((y : ℕ) → Q y → P y) → (s : std.Option ℕ) → Answers P s → Answers Q s
answers_same P Q to from (Some x) h =
    (h.0, record { does = to x h.1.does; least = λ y lt q. h.1.least y lt (from y q) })
answers_same P Q to from None h = λ y lt q. h y lt (from y q)

pub with_summand : (a b w d : ℕ) → d < 2 ^ 64 → (d + b) % 2 ^ 64 ≡ w → (s : std.Option ℕ) → Answers (λ x. a * x % 2 ^ 64 ≡ d) s
    → Answers (λ x. (a * x + b) % 2 ^ 64 ≡ w) s
with_summand a b w d fits e =
    answers_same (λ x. a * x % 2 ^ 64 ≡ d) (λ x. (a * x + b) % 2 ^ 64 ≡ w)
    (summand_on 64 a b w d fits e) (summand_off 64 a b w d fits e)
